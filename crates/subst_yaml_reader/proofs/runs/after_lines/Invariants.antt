use Rattle.std.proofs.Common.{◌≡◌, length, false}
use Rattle.subst_yaml_reader.specs.Runs.{after_lines}
use Rattle.subst_yaml_reader.proofs.runs.after_lines.Given as goal

abbrev pub invariant-loop-rest : goal.invariant-loop-rest
invariant-loop-rest l = after_lines l.comments false l.line l.text
    ≡ after_lines l.comments false l.begin l.rest

abbrev pub decreases-loop-rest : goal.decreases-loop-rest
decreases-loop-rest l = length l.rest
