use Rattle.std.proofs.Common.{arith}
use Rattle.subst_parse.proofs.LaneLemmas.{run_to_lowest, run_unmarked}
use Rattle.subst_parse.proofs.search.first_outside_tail.Goals as goal

pub returns-then-marked-eq0 : goal.returns-then-marked-eq0
returns-then-marked-eq0 g c = record {
  run =
      run_unmarked c.outside_before-marked.ensures c.requires.ordered c.requires.within c.if-marked-eq0.true;
  end = λ before. absurd (omega (arith, before));
  before = omega arith;
}

pub returns-else-marked-eq0 : goal.returns-else-marked-eq0
returns-else-marked-eq0 g c =
    let found = run_to_lowest c.lowest.result c.outside_before-marked.ensures c.requires.within
    c.lowest.ensures.set c.lowest.ensures.below in
    record { run = found.0; end = λ before. found.1; before = omega (arith, found.2) }
