-- The expansion of cells, defined for any cells: of a template, damaged, or of another source.
use Rattle.std.specs.Prelude.{ℕ, zero, suc, List, [], ◌∷◌, ◌++◌, length, Option, Some, None, ◌&&◌, nat_le, if◌then◌else◌}
use Rattle.subst_language.specs.Parts.Span.{span_bytes}
use Rattle.subst_language.specs.declared.part.Span.{Span}
use Rattle.subst_indexed.specs.Cell.{decoded}
use Rattle.subst_indexed.specs.declared.cell.Cell.{Cell}
use Rattle.subst_indexed.specs.declared.cell.NumberedPart.{NumberedPart}
use Rattle.subst_indexed.specs.declared.cell.NumberedPart.TheVariants.{Literal, Escaped, Variable, Default}

-- a function from the number of a variable to the bytes of its value, or to `None`
abbrev pub Values : Type 0
Values = ℕ → Option (List ℕ)

-- the result of expanding cells
pub data Expansion : Type 0 where
  -- bytes
  Gives : List ℕ → Expansion
  -- a needed variable without a value, with the span of its name
  Lacks : Span → Expansion
  -- nothing, since the cells are no template of the source
  Breaks : Expansion

abbrev pub span_of : (start end : ℕ) → Span
span_of start end = record { start = start; end = end }

-- e if the span is in the source s
abbrev pub if_within : List ℕ → Span → Expansion → Expansion
if_within s span e = if nat_le span.start span.end && nat_le span.end (length s) then e else Breaks

-- the value that was found, else e
abbrev pub given_or : Option (List ℕ) → Expansion → Expansion
given_or (Some x) e = Gives x
given_or None e = e

-- the result of a single cell, by the part that it keeps
abbrev pub part_output : Option NumberedPart → List ℕ → Values → Expansion
part_output (Some (Literal start end)) s values =
    if_within s (span_of start end) (Gives (span_bytes (span_of start end) s))
part_output (Some (Escaped b)) s values = Gives (b ∷ [])
part_output (Some (Variable start end number)) s values =
    given_or (values number) (if_within s (span_of start end) (Lacks (span_of start end)))
part_output (Some (Default jump number)) s values = given_or (values number) (Gives [])
part_output None s values = Breaks

-- `jump` if a value was found, else 0
abbrev pub jump_if_found : Option (List ℕ) → ℕ → ℕ
jump_if_found (Some x) jump = jump
jump_if_found None jump = 0

-- the number of cells that are skipped after a cell: those of a default whose variable has a value
abbrev pub part_jump : Option NumberedPart → Values → ℕ
part_jump (Some (Default jump number)) values = jump_if_found (values number) jump
part_jump part values = 0

-- the result of each visited cell, in order; the first `skip` cells are skipped, and at least so many have
-- to be there
abbrev pub outputs : List Cell → (skip : ℕ) → List ℕ → Values → List Expansion
outputs [] zero s values = []
outputs [] (suc skip) s values = Breaks ∷ []
outputs (cell ∷ rest) (suc skip) s values = outputs rest skip s values
outputs (cell ∷ rest) zero s values =
    part_output (decoded cell) s values ∷ outputs rest (part_jump (decoded cell) values) s values

-- the bytes x, and then what e is
abbrev pub after : List ℕ → Expansion → Expansion
after x (Gives y) = Gives (x ++ y)
after x (Lacks span) = Lacks span
after x Breaks = Breaks

-- the first of the expansions that isn't bytes, else the bytes of all
abbrev pub in_row : List Expansion → Expansion
in_row [] = Gives []
in_row (Gives x ∷ rest) = after x (in_row rest)
in_row (Lacks span ∷ rest) = Lacks span
in_row (Breaks ∷ rest) = Breaks

-- the result of the cells if the first `skip` of them are skipped
abbrev pub expansion : List Cell → (skip : ℕ) → List ℕ → Values → Expansion
expansion cells skip s values = in_row (outputs cells skip s values)

-- the bytes up to the first of the expansions that isn't bytes
abbrev pub written_in : List Expansion → List ℕ
written_in [] = []
written_in (Gives x ∷ rest) = x ++ written_in rest
written_in (Lacks span ∷ rest) = []
written_in (Breaks ∷ rest) = []

-- the bytes that an expansion of the cells writes before it ends
abbrev pub cells_written : List Cell → (skip : ℕ) → List ℕ → Values → List ℕ
cells_written cells skip s values = written_in (outputs cells skip s values)
