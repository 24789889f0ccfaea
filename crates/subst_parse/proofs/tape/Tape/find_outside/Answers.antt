use Rattle.std.proofs.Common.{rules, arith}
use Rattle.std.proofs.lemmas.Grind.{common_steps}
use Rattle.subst_parse.proofs.ByteRunLemmas.{run_append}
use Rattle.subst_parse.proofs.tape.Tape.find_outside.Goals as goal

pub returns : goal.returns
returns g c =
    let first = c.is_at.ensures in
    let second = c.is_at-else-not-has.ensures in
    let run = run_append (first.run c.if-not-is_at.false)
    (run_append (rw first.same at (second.run c.if-not-is_at-2.false))
    (rw (second.same, first.same) at c.search.ensures.run)) in
    record {
      run = run;
      end = grind (arith, common_steps);
      within = grind (arith, common_steps);
      same = search rules;
      cost = grind (arith, common_steps);
    }
