-- The lines of a text that aren't blank.
use denote.Ref.{Bor}
use Rattle.std.specs.Prelude.{◌≡◌, ℕ, ◌+◌, ◌==◌, List, [], ◌∷◌, ◌++◌, Bool, ◌||◌, Option, Some, None, if◌then◌else◌}
use Rattle.std.specs.List.{list_all}
use Rattle.subst_rows.specs.declared.json_lines.Line.{Line}

-- whether a byte is a space, a tab or a carriage return
abbrev pub is_space : ℕ → Bool
is_space b = b == 32 || b == 9 || b == 13

-- whether a line is blank
abbrev pub is_blank : List ℕ → Bool
is_blank line = list_all is_space line

-- a line with its number and those after it, without the line if it is blank
abbrev pub row_if : (number : ℕ) → List ℕ → List (ℕ × List ℕ) → List (ℕ × List ℕ)
row_if number line rows = if is_blank line then rows else (number, line) ∷ rows

-- the lines of a text that aren't blank, with their numbers: the first line begins with `front`
unfoldable pub rows_from : (number : ℕ) → (front : List ℕ) → List ℕ → List (ℕ × List ℕ)
rows_from number front [] = row_if number front []
rows_from number front (b ∷ text) =
    if b == 10 then row_if number front (rows_from (number + 1) [] text)
    else rows_from number (front ++ b ∷ []) text

-- the result is the first of the lines, and the others are left
abbrev pub Follows : (old : List (ℕ × List ℕ)) → Option Line → (new : List (ℕ × List ℕ)) → Type 0
Follows old (Some line) new = old ≡ (line.number, line.bytes.now) ∷ new
Follows old None new = (old ≡ []) × (new ≡ [])

-- the result is the first of the lines and the text with the others
abbrev pub IsNext : List (ℕ × List ℕ) → Option (Line × Bor (List ℕ)) → Type 0
IsNext rows (Some (line, text)) = rows ≡ (line.number, line.bytes.now) ∷ rows_from (line.number + 1) [] text.now
IsNext rows None = rows ≡ []
