use Rattle.std.proofs.Common.{◌≡◌, ◌+◌, ◌-◌, ◌≤◌, not, take}
use Rattle.std.specs.List.{suffix_len}
use Rattle.subst_error.specs.Line.{is_line_end}
use Rattle.subst_error.proofs.line.line_start.Given as goal

-- no byte from `start` to the offset ends a line
abbrev pub invariant-loop-start : goal.invariant-loop-start
invariant-loop-start l = record {
  before : l.start ≤ l.fn.offset;
  passed : suffix_len (λ b. not (is_line_end b)) (take l.fn.offset l.fn.source)
      ≡ l.fn.offset - l.start + suffix_len (λ b. not (is_line_end b)) (take l.start l.fn.source);
}

abbrev pub decreases-loop-start : goal.decreases-loop-start
decreases-loop-start l = l.start
