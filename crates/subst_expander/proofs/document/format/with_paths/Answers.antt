-- Each refused string is appended.
use Rattle.std.proofs.Common.{refl, subst}
use Rattle.std.proofs.lemmas.Slice.Zip.{all_zipped_more}
use Rattle.std.specs.List.{AllZip}
use Rattle.subst_expander.specs.Documents.{IsKept}
use Rattle.subst_expander.proofs.ListLemmas.{vec_yielded}
use Rattle.subst_expander.proofs.document.format.with_paths.Goals as goal

pub loop-path-init : goal.loop-path-init
loop-path-init g c = rw c.in_ok-strings.ensures.items tt

pub loop-path-preserved : goal.loop-path-preserved
loop-path-preserved g c =
    rw c.in_ok-push.ensures.items (all_zipped_more (IsKept g.P.Display.output) c.loop-path.yielded
    c.loop-path.strings.items _ _ c.loop-path.invariant (c.in_ok-to_string.ensures.ok, refl))

pub loop-path-preserved-in_ok-push : goal.loop-path-preserved-in_ok-push
loop-path-preserved-in_ok-push g c =
    rw c.in_ok-push.ensures.items (all_zipped_more (IsKept g.P.Display.output) c.loop-path.yielded
    c.loop-path.strings.items _ _ c.loop-path.invariant (c.in_ok-to_string.ensures.ok, refl))

pub returns-clause-strings : goal.returns-clause-strings
returns-clause-strings g c =
    let l = c.loop-path in
    let gives = c.into_iter-path-iterator.ensures.into_iter_gives in
    rw c.in-Ok.is (subst (λ found. AllZip (IsKept g.P.Display.output) found l.strings.items)
    (vec_yielded c.in-Ok.found c.into_iter-path-iterator.result l.path-iterator c.next.new.self l.yielded
    c.next.result gives.0 gives.1 l.yielded_by c.next.ensures.steps c.in-None.is) l.invariant)
