use Rattle.std.proofs.Common.{◌≡◌, ◌+◌, ◌-◌, ◌≤◌, length, drop}
use Rattle.std.specs.List.{position_or_len}
use Rattle.subst_error.specs.Line.{is_line_end}
use Rattle.subst_error.proofs.line.line_end.Given as goal

-- no byte from the offset to `end` ends a line
abbrev pub invariant-loop-end : goal.invariant-loop-end
invariant-loop-end l = record {
  after : l.fn.offset ≤ l.end;
  within : l.end ≤ length l.fn.source;
  passed : position_or_len is_line_end (drop l.fn.offset l.fn.source)
      ≡ l.end - l.fn.offset + position_or_len is_line_end (drop l.end l.fn.source);
}

abbrev pub decreases-loop-end : goal.decreases-loop-end
decreases-loop-end l = length l.fn.source - l.end
