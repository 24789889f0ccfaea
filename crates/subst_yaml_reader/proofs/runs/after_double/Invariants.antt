use Rattle.std.proofs.Common.{◌≡◌, length}
use Rattle.subst_yaml_reader.specs.declared.runs.Escape.TheVariants.{Nothing}
use Rattle.subst_yaml_reader.specs.Runs.{after_double}
use Rattle.subst_yaml_reader.proofs.runs.after_double.Given as goal

abbrev pub invariant-loop-rest : goal.invariant-loop-rest
invariant-loop-rest l = after_double Nothing l.text ≡ after_double l.escape l.rest

abbrev pub decreases-loop-rest : goal.decreases-loop-rest
decreases-loop-rest l = length l.rest
