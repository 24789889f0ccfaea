use Rattle.std.proofs.Common.{◌≡◌, ◌+◌, ◌≤◌, length}
use Rattle.subst_error.specs.Position.{line_end_count}
use Rattle.subst_error.proofs.position.count_line_ends.Given as goal

-- the line ends counted and those left are all line ends; a byte is at most one
abbrev pub invariant-loop-text : goal.invariant-loop-text
invariant-loop-text l = record {
  counted : l.count + line_end_count l.text ≡ line_end_count l.initial.text;
  bound : l.count + length l.text ≤ length l.initial.text;
}

abbrev pub decreases-loop-text : goal.decreases-loop-text
decreases-loop-text l = length l.text
