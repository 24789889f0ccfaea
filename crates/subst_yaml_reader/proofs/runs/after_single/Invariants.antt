use Rattle.std.proofs.Common.{◌≡◌, length, false}
use Rattle.subst_yaml_reader.specs.Runs.{after_single}
use Rattle.subst_yaml_reader.proofs.runs.after_single.Given as goal

abbrev pub invariant-loop-rest : goal.invariant-loop-rest
invariant-loop-rest l = after_single false l.text ≡ after_single l.is_quoted l.rest

abbrev pub decreases-loop-rest : goal.decreases-loop-rest
decreases-loop-rest l = length l.rest
