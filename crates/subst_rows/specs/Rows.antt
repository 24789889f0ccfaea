-- The rows of a text in one of the formats, as look-ups by the names of the columns.
use Rattle.std.specs.Prelude.{◌≡◌, ◌≢◌, ℕ, ◌+◌, ◌==◌, List, [], ◌∷◌, length, map, Bool, true, false, Option, Some, None, Result, Ok, Err, slice_get, if◌then◌else◌}
use Rattle.csv.specs.Reading.{records, strip_bom}
use Rattle.csv.specs.Records.{field_at, fields_of}
use Rattle.json.specs.Find.{get_member}
use Rattle.json.specs.Json.{Members, document, object}
use Rattle.json.specs.Strict.{HasUniqueKeys}
use Rattle.subst_language.specs.Language.LookUp.{LookUp}
use Rattle.subst_rows.specs.JsonLines.{rows_from}
use Rattle.subst_rows.specs.JsonRow.{IsRefusedLine, cell_value, json_cell}
use Rattle.subst_rows.specs.Quotes.{table_config}
use Rattle.subst_rows.specs.Row.{cell_look}
use Rattle.subst_rows.specs.RowsView.{Left, Lines, Records, RowsView, count_left}
use Rattle.subst_rows.specs.Table.{IsChecked, IsRefusedHead}
use Rattle.subst_rows.specs.declared.error.RowsError.{RowsError}
use Rattle.subst_rows.specs.declared.error.RowsError.TheVariants.{OutOfMemory, NotUtf8, OpenQuote, Length}
use Rattle.subst_rows.specs.declared.rows.CurrentRow.{CurrentRow}
use Rattle.subst_rows.specs.declared.rows.CurrentRow.TheVariants as current
use Rattle.subst_rows.specs.declared.rows.RowsFormat.{RowsFormat}
use Rattle.subst_rows.specs.declared.rows.RowsFormat.TheVariants.{Csv, Tsv, JsonLines}
use Rattle.subst_rows.specs.declared.rows.Source.{Source}
use Rattle.subst_rows.specs.declared.rows.Source.TheVariants as source

-- the row of a record: its look-up, or `None` if it has more or fewer cells than the head has names
abbrev pub record_row : (head : List (List ℕ)) → List (List ℕ) → Option LookUp
record_row head cells = if length cells == length head then Some (cell_look head (field_at cells)) else None

-- the look-up has the cells of the names in the members of an object
abbrev pub IsLookUpIn : (nested : Bool) → (names : List (List ℕ)) → Members → LookUp → Type 0
IsLookUpIn nested names ms look =
    (index : ℕ) (name : List ℕ) → slice_get names index ≡ Some name
    → cell_value nested (get_member name ms) ≡ Some (look name)

-- the row of a line with a number: its look-up, or `None` if the line is refused
abbrev pub IsLineRow : (nested : Bool) → (names : List (List ℕ)) → ℕ × List ℕ → Option LookUp → Type 0
IsLineRow nested names (number, line) (Some look) =
    (ms : Members) × (document line ≡ Some (object ms)) × HasUniqueKeys (object ms)
    × IsLookUpIn nested names ms look
IsLineRow nested names (number, line) None =
    (e : RowsError) × (e ≢ OutOfMemory) × IsRefusedLine nested names number line e

-- the rows of lines, one for each line
abbrev pub AreLineRows : (nested : Bool) → (names : List (List ℕ)) → List (ℕ × List ℕ) → List (Option LookUp)
    → Type 0
AreLineRows nested names [] [] = Unit {0}
AreLineRows nested names (line ∷ lines) (row ∷ rows) =
    IsLineRow nested names line row × AreLineRows nested names lines rows
AreLineRows nested names lines rows = ⊥

-- the rows of a table's text
abbrev pub AreTableRows : (delimiter : ℕ) → List ℕ → List (Option LookUp) → Type 0
AreTableRows delimiter text rows =
    (head : List (List ℕ)) × (rest : List (List (List ℕ)))
    × (records (table_config delimiter) (strip_bom text) ≡ head ∷ rest) × (rows ≡ map (record_row head) rest)

-- the rows of a text
abbrev pub AreRows : RowsFormat → (nested : Bool) → (names : List (List ℕ)) → List ℕ → List (Option LookUp) → Type 0
AreRows Csv nested names text rows = AreTableRows 44 text rows
AreRows Tsv nested names text rows = AreTableRows 9 text rows
AreRows JsonLines nested names text rows = AreLineRows nested names (rows_from 1 [] (strip_bom text)) rows

-- the rows that are left
abbrev pub AreRowsOf : Left → (head : List (List ℕ)) → (nested : Bool) → (names : List (List ℕ))
    → List (Option LookUp) → Type 0
AreRowsOf (Records records) head nested names rows = rows ≡ map (record_row head) records
AreRowsOf (Lines lines) head nested names rows = AreLineRows nested names lines rows

abbrev pub AreLeft : RowsView → List (Option LookUp) → Type 0
AreLeft view rows = AreRowsOf view.left view.head view.nested view.names rows

-- the head of a table's text
abbrev pub IsTableHead : (delimiter : ℕ) → List ℕ → (head : List (List ℕ)) → Type 0
IsTableHead delimiter text head =
    (rest : List (List (List ℕ))) × (records (table_config delimiter) (strip_bom text) ≡ head ∷ rest)

-- the names of the columns of a text: the head of a table, and the names of the template for JSON Lines
abbrev pub IsHead : RowsFormat → (names : List (List ℕ)) → List ℕ → (head : List (List ℕ)) → Type 0
IsHead Csv names text head = IsTableHead 44 text head
IsHead Tsv names text head = IsTableHead 9 text head
IsHead JsonLines names text head = head ≡ names

-- the text of a table is checked
abbrev pub IsCheckedText : RowsFormat → List ℕ → Type 0
IsCheckedText Csv text = IsChecked 44 text (Ok tt)
IsCheckedText Tsv text = IsChecked 9 text (Ok tt)
IsCheckedText JsonLines text = Unit {0}

-- the rows of a text are opened
pub record IsOpened (format : RowsFormat) (nested : Bool) (names : List (List ℕ)) (text : List ℕ)
    (opened : RowsView) : Type 0 where
  pub checked : IsCheckedText format text
  pub head : IsHead format names text opened.head
  pub nested_kept : opened.nested ≡ nested
  pub names_kept : opened.names ≡ names
  pub whole : opened.failed ≡ false
  pub rows : (rows : List (Option LookUp)) → AreLeft opened rows → AreRows format nested names text rows

-- a checked text opened as a table
abbrev pub IsTableOf : (delimiter : ℕ) → List ℕ → Source → Type 0
IsTableOf delimiter text (source.Table table) =
    IsChecked delimiter text (Ok tt)
    × (records (table_config delimiter) (strip_bom text) ≡ table.head ∷ table.rest)
IsTableOf delimiter text it = ⊥

-- the error of a table's text
abbrev pub IsRefusedTable : (delimiter : ℕ) → List ℕ → RowsError → Type 0
IsRefusedTable delimiter text (NotUtf8 line) = IsChecked delimiter text (Err (NotUtf8 line))
IsRefusedTable delimiter text (OpenQuote line) = IsChecked delimiter text (Err (OpenQuote line))
IsRefusedTable delimiter text e = IsRefusedHead delimiter text e

-- the error of a text that isn't opened
abbrev pub IsRefusedText : RowsFormat → List ℕ → RowsError → Type 0
IsRefusedText Csv text e = IsRefusedTable 44 text e
IsRefusedText Tsv text e = IsRefusedTable 9 text e
IsRefusedText JsonLines text e = ⊥

-- the bytes of the cell in a column of a row
abbrev pub row_cells : CurrentRow → ℕ → Option (List ℕ)
row_cells (current.Table row) column = field_at (fields_of row.now) column
row_cells (current.Json row) column = json_cell row.cells.items column

-- the error of the first of the records or lines
abbrev pub IsRefusedRow : Left → (head : List (List ℕ)) → (nested : Bool) → (names : List (List ℕ)) → RowsError
    → Type 0
IsRefusedRow (Records (row ∷ rows)) head nested names (Length line cells columns) =
    (cells ≡ length row) × (columns ≡ length head) × (cells ≢ columns)
IsRefusedRow (Lines ((number, line) ∷ lines)) head nested names e = IsRefusedLine nested names number line e
IsRefusedRow left head nested names e = ⊥

-- the first row that is left was read
pub record ReadsRow (old new : RowsView) (row : Option LookUp) : Type 0 where
  pub fewer : count_left old.left ≡ count_left new.left + 1
  pub rows : (rows : List (Option LookUp)) → AreLeft new rows → AreLeft old (row ∷ rows)

-- the result of reading the next row
abbrev pub IsNextRow : (old new : RowsView) → Result (Option CurrentRow) RowsError → Type 0
IsNextRow old new (Ok (Some row)) = ReadsRow old new (Some (cell_look old.head (row_cells row)))
IsNextRow old new (Ok None) = AreLeft old [] × AreLeft new []
IsNextRow old new (Err OutOfMemory) = Unit {0}
IsNextRow old new (Err e) =
    IsRefusedRow old.left old.head old.nested old.names e × ReadsRow old new None

-- whether memory ran out
abbrev pub is_memory : Result (Option CurrentRow) RowsError → Bool
is_memory (Err OutOfMemory) = true
is_memory result = false

-- the head, the names and `nested` are the same
pub record KeepsNames (old new : RowsView) : Type 0 where
  pub head : new.head ≡ old.head
  pub nested : new.nested ≡ old.nested
  pub names : new.names ≡ old.names
