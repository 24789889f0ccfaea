-- Cells as a template: a head, the cells of the parts, and a cell for the first use of each name.
use Rattle.std.specs.Prelude.{ℕ, ◌+◌, ◌%◌, ◌^◌, ◌==◌, List, [], ◌∷◌, ◌++◌, take, drop, length, sum_by, Option, Some, None, Bool, false, ◌&&◌, nat_le, if◌then◌else◌}
use Rattle.subst_language.specs.declared.part.Span.{Span}
use Rattle.subst_indexed.specs.Expansion.{Expansion, Breaks, Values, expansion, cells_written, span_of}
use Rattle.subst_indexed.specs.Numbering.{FirstUse}
use Rattle.subst_indexed.specs.declared.cell.Cell.{Cell}
use Rattle.subst_indexed.specs.declared.cell.TheConstants.{HEAD, NAME}

-- the sum of the numbers of a cell
abbrev pub cell_sum : Cell → ℕ
cell_sum cell = cell.kind + cell.first + cell.second + cell.number

-- the check sum of a template: of the number of its parts and of the cells after its head
abbrev pub check_sum : (count : ℕ) → List Cell → ℕ
check_sum count rest = (count + sum_by cell_sum rest) % 2 ^ 32

-- whether the check sum of the cells is right
abbrev pub is_whole : List Cell → Bool
is_whole [] = false
is_whole (head ∷ rest) = head.number == check_sum head.second rest

-- whether the cell is the head of a template of a source with this length, if `rest` are the cells after it
abbrev pub is_head : Cell → (len : ℕ) → List Cell → Bool
is_head head len rest = head.kind == HEAD && head.first == len && nat_le head.second (length rest)

-- the cells of the parts of a template of a source with this length; `None` if the cells are no such template
abbrev pub part_cells : List Cell → (len : ℕ) → Option (List Cell)
part_cells [] len = None
part_cells (head ∷ rest) len = if is_head head len rest then Some (take head.second rest) else None

-- the cells of the names of a template
abbrev pub name_cells : List Cell → List Cell
name_cells [] = []
name_cells (head ∷ rest) = drop head.second rest

-- the span of the name that a cell keeps
abbrev pub cell_span : Cell → Span
cell_span cell = span_of cell.first cell.second

-- the result of the cells of parts if the first `skip` are skipped; `Breaks` if there are none
abbrev pub parts_expansion : Option (List Cell) → (skip : ℕ) → List ℕ → Values → Expansion
parts_expansion (Some cells) skip s values = expansion cells skip s values
parts_expansion None skip s values = Breaks

-- the result of the cells over the source s: `Breaks` if they are no template of a source of its length
abbrev pub template_expansion : List Cell → List ℕ → Values → Expansion
template_expansion cells s values =
    if is_whole cells then parts_expansion (part_cells cells (length s)) 0 s values else Breaks

-- the bytes that the cells of parts write before their expansion ends
abbrev pub parts_written : Option (List Cell) → (skip : ℕ) → List ℕ → Values → List ℕ
parts_written (Some cells) skip s values = cells_written cells skip s values
parts_written None skip s values = []

-- the bytes that the template writes before its expansion ends
abbrev pub template_written : List Cell → List ℕ → Values → List ℕ
template_written cells s values =
    if is_whole cells then parts_written (part_cells cells (length s)) 0 s values else []

-- the cell that keeps the first use of a name
abbrev pub use_cell : FirstUse → Cell
use_cell it = record { kind = NAME; first = it.position; second = it.position + length it.name; number = 0 }

-- the template of a source with this length: a head, the cells of the parts, and the cells of the names
abbrev pub template_cells : (len : ℕ) → (parts names : List Cell) → List Cell
template_cells len parts names =
    record { kind = HEAD; first = len; second = length parts; number = check_sum (length parts) (parts ++ names) }
    ∷ parts ++ names
