use Rattle.std.proofs.Common.{◌+◌, length, arith, length-drop, ap, get_or, subst, List, ℕ}
use Rattle.std.proofs.lemmas.Grind.{common_steps}
use Rattle.subst_language.specs.Language.Bytes.{IsPlain}
use Rattle.subst_parse.proofs.ByteRunLemmas.{run_of, plain_of}
use Rattle.subst_parse.proofs.search.find_special_far.Goals as goal

pub returns-in-Some : goal.returns-in-Some
returns-in-Some c =
    let is_rest = c.rest.ensures in
    let run = run_of IsPlain c.args.source.now c.args.from (c.args.from + c.in-Some.found) (omega arith)
    (omega (arith, c.in-Some.ensures.0.high, simp length-drop at (ap length is_rest)))
    (λ k below. subst (λ (rest : List ℕ). IsPlain (get_or rest k 0)) is_rest
    (plain_of _ (c.in-Some.ensures.0.before k (omega arith) (omega arith)))) in
    record { run = run; end = grind (arith, common_steps); within = grind (arith, common_steps) }

pub returns-in-None : goal.returns-in-None
returns-in-None c =
    let is_rest = c.rest.ensures in
    let s = c.args.source.now in
    let run = run_of IsPlain s c.args.from (length s) (omega arith) (omega arith)
    (λ k below. subst (λ (rest : List ℕ). IsPlain (get_or rest k 0)) is_rest
    (plain_of _
    (c.in-None.ensures k (omega arith) (omega (arith, simp length-drop at (ap length is_rest)))))) in
    record { run = run; end = grind (arith, common_steps); within = omega arith }
