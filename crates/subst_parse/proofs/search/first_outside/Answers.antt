use Rattle.std.proofs.Common.{arith}
use Rattle.subst_parse.proofs.ByteRunLemmas.{run_append}
use Rattle.subst_parse.proofs.LaneLemmas.{run_to_lowest, run_unmarked}
use Rattle.subst_parse.proofs.search.first_outside.Goals as goal

pub returns-then-marked-ne0 : goal.returns-then-marked-ne0
returns-then-marked-ne0 g c =
    let found = run_to_lowest c.lowest.result c.outside_at-marked.ensures (omega arith) c.lowest.ensures.set
    c.lowest.ensures.below in
    record {
      run = run_append c.loop-at.invariant.run found.0;
      end = λ before. found.1;
      before = omega (arith, found.2);
    }

pub loop-at-preserved : goal.loop-at-preserved
loop-at-preserved g c = record {
  run = run_append c.loop-at.invariant.run
      (run_unmarked c.outside_at-marked.ensures (omega arith) (omega arith) c.if-marked-ne0.false);
  before = omega arith;
}

pub returns : goal.returns
returns g c =
    let last = c.first_outside_tail.ensures in
    record { run = run_append c.loop-at.invariant.run last.run; end = last.end; before = last.before }
