-- They are the refused strings of the listing.
use Rattle.std.proofs.lemmas.Option.{IfSome_then}
use Rattle.std.proofs.lemmas.Result.{IfOk-weaker}
use Rattle.subst_json.specs.Listed.{IsListing}
use Rattle.subst_json.proofs.ListedLemmas.{all_refused}
use Rattle.subst_json.proofs.listing.refusals_of.Goals as goal

pub returns : goal.returns
returns g c =
    let source = c.args.source.now in
    let list = c.in-Some.list.items in
    let listing : IsListing source list = rw c.in-Some.is at c.in_ok-list.ensures in
    IfOk-weaker c.refusals.result _ _ (λ all h. IfSome_then all h
    (λ all h. all_refused (g.F.Fill.answers c.args.filler.now) source all.items (list, listing, h)))
    (rw c.as_slice.ensures.value at c.refusals.ensures)
