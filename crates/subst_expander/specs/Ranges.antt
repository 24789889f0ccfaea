-- The ranges of faults.
use Rattle.std.specs.Prelude.{◌+◌, ◌-◌, ◌^◌, ℕ, min}
use Rattle.std.specs.declared.ops.Range.{Range}

-- the range of `len` bytes at `position`; its end is at most the largest offset
abbrev pub span_at : (position len : ℕ) → Range ℕ
span_at position len = record { start = position; end = min (position + len) (2 ^ 64 - 1) }
