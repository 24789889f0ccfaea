use Rattle.std.proofs.Common.{◌≡◌, length, false, ◌++◌}
use Rattle.subst_yaml_reader.specs.Decoded.{lines_of}
use Rattle.subst_yaml_reader.proofs.decoded.lines_of.Given as goal

abbrev pub invariant-loop-rest : goal.invariant-loop-rest
invariant-loop-rest l = lines_of l.indent false 0 l.text
    ≡ l.lines.items ++ lines_of l.indent l.in_text l.column l.rest

abbrev pub decreases-loop-rest : goal.decreases-loop-rest
decreases-loop-rest l = length l.rest
