use Rattle.std.proofs.Common.{length}
use Rattle.subst_yaml_filled.proofs.cases.plain.Given as goal

abbrev pub decreases-loop-rest : goal.decreases-loop-rest
decreases-loop-rest l = length l.rest
