-- The checks of a table's text, and the moves of a table.
use Rattle.std.specs.Prelude.{◌≡◌, ◌≢◌, ℕ, List, [], ◌∷◌, length, Bool, true, false, Result, Ok, Err, IsUtf8}
use Rattle.csv.specs.Reading.{records, strip_bom}
use Rattle.subst_rows.specs.Quotes.{EndsInQuotes, table_config}
use Rattle.subst_rows.specs.TableView.{TableView}
use Rattle.subst_rows.specs.declared.error.RowsError.{RowsError}
use Rattle.subst_rows.specs.declared.error.RowsError.TheVariants.{OutOfMemory, NotUtf8, OpenQuote, NoHead, Length}

-- the result of checking a table's text
abbrev pub IsChecked : (delimiter : ℕ) → List ℕ → Result (Unit {0}) RowsError → Type 0
IsChecked delimiter text (Ok done) = IsUtf8 text × ¬ (EndsInQuotes delimiter (strip_bom text))
IsChecked delimiter text (Err (NotUtf8 line)) = ¬ (IsUtf8 text)
IsChecked delimiter text (Err (OpenQuote line)) = EndsInQuotes delimiter (strip_bom text)
IsChecked delimiter text (Err e) = ⊥

-- the error of a table that isn't opened
abbrev pub IsRefusedHead : (delimiter : ℕ) → List ℕ → RowsError → Type 0
IsRefusedHead delimiter text OutOfMemory = Unit {0}
IsRefusedHead delimiter text NoHead = records (table_config delimiter) (strip_bom text) ≡ []
IsRefusedHead delimiter text e = ⊥

-- a table moved on to its next row
pub record Moves (old new : TableView) : Type 0 where
  pub row : old.rest ≡ new.row ∷ new.rest
  pub head : new.head ≡ old.head
  pub failed : new.failed ≡ false

-- the result of moving on to the next row
abbrev pub MovesOn : (old new : TableView) → Result Bool RowsError → Type 0
MovesOn old new (Ok true) = Moves old new × (length new.row ≡ length new.head)
MovesOn old new (Ok false) = (old.rest ≡ []) × (new.rest ≡ []) × (new.head ≡ old.head) × (new.failed ≡ old.failed)
MovesOn old new (Err (Length line cells names)) =
    Moves old new × (cells ≡ length new.row) × (names ≡ length new.head) × (cells ≢ names)
MovesOn old new (Err OutOfMemory) = (new.failed ≡ true) × (new.head ≡ old.head)
MovesOn old new (Err e) = ⊥

-- the result for a current row: an error if the row has more or fewer cells than the head has names
abbrev pub IsOfLength : TableView → Result Bool RowsError → Type 0
IsOfLength table (Ok true) = length table.row ≡ length table.head
IsOfLength table (Err (Length line cells names)) =
    (cells ≡ length table.row) × (names ≡ length table.head) × (cells ≢ names)
IsOfLength table result = ⊥
