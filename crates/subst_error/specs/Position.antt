-- The line and column of a fault, both from 1.
use Rattle.std.specs.Prelude.{ℕ, ◌+◌, ◌==◌, Bool, not, ◌&&◌, ◌||◌, if◌then◌else◌, nat_eq, List, [], ◌∷◌, take, Option}
use Rattle.std.specs.List.{starts_with}
use Rattle.subst_error.specs.Fault.{Fault}
use Rattle.subst_error.specs.Highlighting.{columns}
use Rattle.subst_error.specs.Line.{line_before}
use Rattle.subst_error.specs.Range.{range_of}

-- The byte b, before the bytes `rest`, ends a line. It is a line feed, or a carriage return that no line feed
-- follows. So a carriage return and the line feed after it end a single line.
abbrev pub ends_line : ℕ → List ℕ → Bool
ends_line b rest = b == 10 || (b == 13 && not (starts_with nat_eq rest (10 ∷ [])))

-- the number of line ends in a text
abbrev pub line_end_count : List ℕ → ℕ
line_end_count [] = 0
line_end_count (b ∷ rest) = (if ends_line b rest then 1 else 0) + line_end_count rest

-- The line and column at the byte offset `offset` of the text s. The line is one more than the number of line
-- ends before the offset. The column is one more than the width of the line's text before the offset.
abbrev pub position_at : ℕ → List ℕ → ℕ × ℕ
position_at offset s = (1 + line_end_count (take offset s), 1 + columns (line_before offset s))

-- the line and column of the source s at which an error's range begins
abbrev pub position_of : Option Fault → List ℕ → ℕ × ℕ
position_of e s = position_at (range_of e).start s
