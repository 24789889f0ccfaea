-- The lines and columns of offsets in a source.
use Rattle.std.specs.Prelude.{◌≡◌, ℕ, ◌-◌, ◌^◌, ◌==◌, Bool, ◌||◌, IsUtf8, List, take, min}
use Rattle.subst.specs.Position.{position_at}

-- The byte is a space, a dollar or a backslash. The columns of a text are those before such a byte and those
-- from it on, added up.
abbrev pub is_cut : ℕ → Bool
is_cut b = b == 32 || b == 36 || b == 92

-- the numbers are the line and column at the byte offset `offset` of s, provided that s is text up to there;
-- a column that exceeds a `usize` is replaced by its greatest number
abbrev pub IsPositionAt : List ℕ → ℕ → (line column : ℕ) → Type 0
IsPositionAt s offset line column =
    let at = position_at offset s in
    IsUtf8 (take offset s) → (line ≡ at.0) × (column ≡ min at.1 (2 ^ 64 - 1))
