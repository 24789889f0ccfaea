use Rattle.std.proofs.Common.{◌≡◌, length}
use Rattle.subst_yaml_reader.specs.Runs.{is_text}
use Rattle.subst_yaml_reader.proofs.runs.is_text.Given as goal

abbrev pub invariant-loop-rest : goal.invariant-loop-rest
invariant-loop-rest l = is_text l.text ≡ is_text l.rest

abbrev pub decreases-loop-rest : goal.decreases-loop-rest
decreases-loop-rest l = length l.rest
