-- The byte offset of a line and column.
use Rattle.std.specs.Prelude.{◌≡◌, ℕ, ◌+◌, ◌-◌, ◌<◌, ◌≤◌, ◌==◌, Bool, List, length}
use Rattle.std.specs.Fn.{iterate}
use Rattle.std.specs.List.{after_first}
use Rattle.std.specs.Str.{IsCharBoundary}
use Rattle.std.specs.declared.ops.Range.{Range}

-- the byte is a line feed
abbrev pub is_line_feed : ℕ → Bool
is_line_feed b = b == 10

-- The byte offset at which a line of the text s begins. Lines are counted from 1 and end at line feeds. A
-- line after the last one begins at the end of s.
abbrev pub line_start : List ℕ → ℕ → ℕ
line_start s line = length s - length (iterate (after_first is_line_feed) (line - 1) s)

-- `offset` is the last character boundary of the text s that isn't past the byte at a line and column.
-- Columns are counted in bytes from 1.
pub record HasOffset (s : List ℕ) (line column offset : ℕ) : Type 0 where
  pub boundary : IsCharBoundary s offset
  pub bound : offset ≤ line_start s line + column - 1
  pub nearest : (i : ℕ) → offset < i → i ≤ line_start s line + column - 1 → ¬ (IsCharBoundary s i)

-- the place is empty, at the offset of a line and column of the text s
abbrev pub IsStop : List ℕ → Range ℕ → Type 0
IsStop s place =
    (line : ℕ) × (column : ℕ) × HasOffset s line column place.start × (place.end ≡ place.start)
