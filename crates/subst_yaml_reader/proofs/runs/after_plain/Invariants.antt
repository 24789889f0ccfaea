use Rattle.std.proofs.Common.{◌≡◌, length}
use Rattle.subst_yaml_reader.specs.Runs.{after_plain}
use Rattle.subst_yaml_reader.proofs.runs.after_plain.Given as goal

abbrev pub invariant-loop-rest : goal.invariant-loop-rest
invariant-loop-rest l = after_plain l.in_flow l.text l.text ≡ after_plain l.in_flow l.end l.rest

abbrev pub decreases-loop-rest : goal.decreases-loop-rest
decreases-loop-rest l = length l.rest
