use Rattle.std.proofs.Common.{arith}
use Rattle.subst_yaml_filled.proofs.chosen.ChosenFill.fill.Goals as goal

pub returns-in-Err-Refused-clause-range : goal.returns-in-Err-Refused-clause-range
returns-in-Err-Refused-clause-range c = rw c.refused.ensures (omega arith)
