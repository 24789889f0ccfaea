use Rattle.std.proofs.Common.{◌≡◌, length}
use Rattle.subst_yaml_reader.specs.Runs.{to_line_end}
use Rattle.subst_yaml_reader.proofs.runs.to_line_end.Given as goal

abbrev pub invariant-loop-rest : goal.invariant-loop-rest
invariant-loop-rest l = to_line_end l.text ≡ to_line_end l.rest

abbrev pub decreases-loop-rest : goal.decreases-loop-rest
decreases-loop-rest l = length l.rest
