use Rattle.std.proofs.Common.{◌≡◌, ◌+◌, ◌-◌, length}
use Rattle.subst_yaml_reader.specs.Runs.{after_plain_lines}
use Rattle.subst_yaml_reader.proofs.runs.after_plain_lines.Given as goal

abbrev pub invariant-loop-turn : goal.invariant-loop-turn
invariant-loop-turn l = after_plain_lines (length l.text + 1) l.outer l.text
    ≡ after_plain_lines (length l.text + 1 - l.turn) l.outer l.rest
