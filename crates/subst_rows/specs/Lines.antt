-- The line ends of a text.
use Rattle.std.specs.Prelude.{ℕ, zero, suc, ◌+◌, List, [], ◌∷◌, Bool, false, if◌then◌else◌}
use Rattle.subst_error.specs.Position.{ends_line}

-- whether the first byte of the text ends a line
abbrev pub ends_line_at : List ℕ → Bool
ends_line_at [] = false
ends_line_at (b ∷ rest) = ends_line b rest

-- the number of line ends among the first n bytes of a text
abbrev pub line_ends : ℕ → List ℕ → ℕ
line_ends zero text = 0
line_ends (suc n) [] = 0
line_ends (suc n) (b ∷ rest) = (if ends_line b rest then 1 else 0) + line_ends n rest
