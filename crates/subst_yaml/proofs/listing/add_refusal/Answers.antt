-- The string of the event isn't refused, or its refusal is appended.
use Rattle.std.proofs.Common.{◌≡◌, [], ◌∷◌, map, refl, sym, append-nil}
use Rattle.subst_yaml.specs.Listed.{spelled_at, spelled_of, RefusalAt}
use Rattle.subst_yaml.specs.Paths.{trail_of}
use Rattle.subst_yaml.proofs.ListedLemmas.{none_refused, one_refused}
use Rattle.subst_yaml.proofs.listing.add_refusal.Goals as goal

pub returns-in_default-2 : goal.returns-in_default-2
returns-in_default-2 g c =
    let ask = g.F.Fill.answers c.args.filler.now in
    let is : map spelled_of (c.in-Some.it ∷ []) ≡ spelled_at c.args.text.now c.args.event =
    rw c.in-Some.is at c.in_ok-it.ensures in (
      [],
      sym (append-nil c.args.all.now.items),
      none_refused ask c.args.text.now (trail_of c.args.trail.now) c.args.event c.in-Some.it is
          (rw (c.in_default-2.is, c.as_str.ensures.value) at c.in_ok-error.ensures.answer),
    )

pub returns : goal.returns
returns g c =
    let ask = g.F.Fill.answers c.args.filler.now in
    let text = c.args.text.now in
    let it = c.in-Some.it in
    let refusal : RefusalAt =
    record { path = c.in_ok-path.path; text = it.text; span = it.span; error = c.in-Some-2.error } in
    let is : map spelled_of (it ∷ []) ≡ spelled_at text c.args.event = rw c.in-Some.is at c.in_ok-it.ensures in (
      refusal ∷ [],
      c.in_ok-push.ensures.items,
      one_refused ask text (trail_of c.args.trail.now) c.args.event it refusal is
          (rw c.in_ok-path.ensures refl)
          (rw (c.in-Some-2.is, c.as_str.ensures.value) at c.in_ok-error.ensures.answer)
          (rw (c.in-Some-2.is, c.as_str.ensures.value) at c.in_ok-error.ensures.refusal_range),
    )
