-- A source begins in line 1, at column 1.
use Rattle.std.proofs.Common.{arith, refl}
use Rattle.subst_expander.proofs.PositionLemmas.{columns-nil}
use Rattle.subst_expander.proofs.position.Positions.of.Goals as goal

pub invariant_of-result : goal.invariant_of-result
invariant_of-result c = record {
  within = omega arith;
  cut = λ some. absurd (omega arith);
  position = λ utf8. (refl, omega (arith, columns-nil));
}
