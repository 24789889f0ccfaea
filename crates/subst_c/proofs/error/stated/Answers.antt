-- The span of the record has the bytes of the fault.
use Rattle.std.proofs.Common.{◌≡◌, ◌+◌, ◌-◌, true, length, nat_le, slice_get, slice_range, rules, arith, ap, ◌∙◌}
use Rattle.subst_c.proofs.ErrorsLemmas.{copied_at}
use Rattle.subst_c.proofs.error.stated.Goals as goal

pub returns : goal.returns
returns c =
    let s = c.args.source.now in
    let told = c.args.fault.now in
    let before : c.copied-before.result ≡ slice_get s (told.position - 1) =
    c.copied-before.ensures
    ∙ copied_at s c.saturating_sub.result c.get-2.result c.get-2.ensures.lookup.0 c.get-2.ensures.lookup.1
    ∙ ap (slice_get s) c.saturating_sub.ensures in
    let inside : nat_le (told.position + told.length) (length s) ≡ true = search (rules, arith) in
    let bytes : c.in-Some-get.span.now ≡ slice_range s told.position (told.position + told.length) =
    search (rules, arith) in
    rw (inside, ← before, ← bytes) c.error_of_kind.ensures
