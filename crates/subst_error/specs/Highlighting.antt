-- The line of a fault, with the fault underlined.
use Rattle.std.specs.Prelude.{ℕ, ◌-◌, false, if◌then◌else◌, nat_lt, List, [], ◌++◌, take, Option, Some, None, chars, codes}
use Rattle.std.specs.List.{repeat}
use Rattle.std.specs.declared.ops.Range.{Range}
use Rattle.unicode_width.specs.Width.{str_width}
use Rattle.subst_error.specs.Fault.{Fault}
use Rattle.subst_error.specs.Line.{line_around, line_before, line_from}
use Rattle.subst_error.specs.Range.{range_of}

-- the width of a text in columns of a terminal, as `unicode_width` counts them
abbrev pub columns : List ℕ → ℕ
columns s = str_width false (chars s)

-- the width of the widest line that is shown, in columns
abbrev pub widest : ℕ
widest = 60

-- The text `line`, and below it `spaces` spaces and `carets` carets. Both lines are indented by two spaces
-- and end in a line feed.
abbrev pub underlined : List ℕ → ℕ → ℕ → List ℕ
underlined line spaces carets =
    codes "  " ++ line ++ codes "\n  " ++ repeat spaces (codes " ") ++ repeat carets (codes "^") ++ codes "\n"

-- The line of the text s in which the range begins, with carets below the part of the range in that line.
-- Empty if the line is wider than `widest`.
abbrev pub highlighting_at : Range ℕ → List ℕ → List ℕ
highlighting_at range s =
    let line = line_around range.start s in
    let marked = take (range.end - range.start) (line_from range.start s) in
    if nat_lt widest (columns line) then [] else
    underlined line (columns (line_before range.start s)) (columns marked)

-- The line of the source s in which the fault's range begins, with the range underlined. Empty if memory ran
-- out or the line is too wide.
abbrev pub highlighting_of : Option Fault → List ℕ → List ℕ
highlighting_of None s = []
highlighting_of (Some fault) s = highlighting_at (range_of (Some fault)) s
