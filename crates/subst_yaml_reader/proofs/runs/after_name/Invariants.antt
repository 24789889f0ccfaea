use Rattle.std.proofs.Common.{◌≡◌, length}
use Rattle.subst_yaml_reader.specs.Runs.{after_name}
use Rattle.subst_yaml_reader.proofs.runs.after_name.Given as goal

abbrev pub invariant-loop-rest : goal.invariant-loop-rest
invariant-loop-rest l = after_name l.in_tag l.text ≡ after_name l.in_tag l.rest

abbrev pub decreases-loop-rest : goal.decreases-loop-rest
decreases-loop-rest l = length l.rest
