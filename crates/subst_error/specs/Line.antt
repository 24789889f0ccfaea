-- The line of a fault in its source.
use Rattle.std.specs.Prelude.{ℕ, ◌==◌, Bool, ◌||◌, List, ◌++◌, take, drop, Option}
use Rattle.std.specs.List.{before_first, after_last}
use Rattle.subst_error.specs.Fault.{Fault}
use Rattle.subst_error.specs.Range.{range_of}

-- the byte is a line feed or a carriage return
abbrev pub is_line_end : ℕ → Bool
is_line_end b = b == 10 || b == 13

-- the text before the byte offset `offset` of s, from the start of the line that contains the offset
abbrev pub line_before : ℕ → List ℕ → List ℕ
line_before offset s = after_last is_line_end (take offset s)

-- the text from the byte offset `offset` of s on, up to the end of the line that contains the offset
abbrev pub line_from : ℕ → List ℕ → List ℕ
line_from offset s = before_first is_line_end (drop offset s)

-- the line of the text s that contains the byte offset `offset`, without its line end
abbrev pub line_around : ℕ → List ℕ → List ℕ
line_around offset s = line_before offset s ++ line_from offset s

-- the line of the source s in which an error's range begins
abbrev pub line_of : Option Fault → List ℕ → List ℕ
line_of e s = line_around (range_of e).start s
