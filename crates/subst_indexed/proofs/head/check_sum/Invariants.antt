-- The sum so far.
use Rattle.std.proofs.Common.{◌≡◌, take}
use Rattle.subst_indexed.specs.Template.{check_sum}
use Rattle.subst_indexed.proofs.head.check_sum.Given as goal

abbrev pub invariant-loop-cell : goal.invariant-loop-cell
invariant-loop-cell l = l.sum ≡ check_sum l.count (take l.cell-index l.rest)
