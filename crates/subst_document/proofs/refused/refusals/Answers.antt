-- Each refusal has the path of its index.
use Rattle.std.proofs.Common.{◌≡◌, [], sym, subst, arith}
use Rattle.std.proofs.lemmas.Grind.{common_steps}
use Rattle.std.proofs.lemmas.Option.{IfSome_then}
use Rattle.std.proofs.lemmas.Result.{IfOk-weaker}
use Rattle.subst_document.specs.Refused.{AreRefusedOf, ArePathsTo}
use Rattle.subst_document.proofs.RefusedLemmas.{refused_with_paths}
use Rattle.subst_document.proofs.refused.refusals.Goals as goal

pub returns-then-is_empty : goal.returns-then-is_empty
returns-then-is_empty g c =
    let ask = g.F.Fill.answers c.args.filler.now in
    let LeadsTo = g.P.Paths.leads_to c.args.paths.now in
    let none : c.in_ok-refused.refused.items ≡ [] = grind (arith, common_steps) in
    subst (AreRefusedOf ask LeadsTo 0 c.args.list.now) (sym c.new.ensures.items)
    (refused_with_paths ask LeadsTo 0 c.args.list.now [] []
    (subst (AreRefusedOf ask (λ i path. path ≡ i) 0 c.args.list.now) none c.in_ok-refused.ensures) tt)

pub returns : goal.returns
returns g c =
    let ask = g.F.Fill.answers c.args.filler.now in
    let LeadsTo = g.P.Paths.leads_to c.args.paths.now in
    let paths = c.in-Some.paths.items in
    let refused = c.in_ok-refused.refused.items in
    let lead : ArePathsTo LeadsTo refused paths =
    subst (λ rs. ArePathsTo LeadsTo rs paths) c.as_slice.ensures.value (rw c.in-Some.is at c.in_ok-paths.ensures) in
    let all = refused_with_paths ask LeadsTo 0 c.args.list.now refused paths c.in_ok-refused.ensures lead in
    IfOk-weaker c.with_paths.result _ _ (λ joined h. IfSome_then joined h
    (λ joined is. subst (AreRefusedOf ask LeadsTo 0 c.args.list.now) (sym is) all)) c.with_paths.ensures
