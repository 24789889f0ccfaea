-- A table as its rows.
use denote.Ref.{Bor}
use Rattle.std.specs.Prelude.{◌≡◌, ℕ, ◌+◌, List, [], ◌∷◌, length, Bool, true, false, Option, Some, None}
use Rattle.csv.specs.Reading.{Ready, has_failed, reader_config, reader_state, reader_trim, records_from, source_of}
use Rattle.csv.specs.declared.reader.Reader.{Reader}
use Rattle.csv.specs.declared.reader.Trim.TheVariants as trim
use Rattle.subst_rows.specs.declared.table.Progress.{Progress}
use Rattle.subst_rows.specs.declared.table.Progress.TheVariants.{Reading, Failed}

-- the names in the head, the cells of the current row, the rows after it, and whether memory ran out
pub record TableView : Type 0 where
  pub head : List (List ℕ)
  pub row : List (List ℕ)
  pub rest : List (List (List ℕ))
  pub failed : Bool

-- the known bytes of a slice
abbrev pub slice_left : Bor (List ℕ) → Option (List ℕ)
slice_left slice = Some slice.now

-- the bytes, if they are known
abbrev pub known_bytes : Option (List ℕ) → List ℕ
known_bytes None = []
known_bytes (Some xs) = xs

-- the rows that a reader has left
abbrev pub rows_left : Reader (Bor (List ℕ)) → List (List (List ℕ))
rows_left reader =
    let left = known_bytes (source_of slice_left reader) in
    records_from (reader_config reader) (length left + 1) (reader_state reader) left

-- a reader reads the next row as it is
pub record IsReading (reader : Reader (Bor (List ℕ))) : Type 0 where
  pub whole : has_failed reader ≡ false
  pub trim : reader_trim reader ≡ trim.None
  pub ready : Ready reader

-- a read changes a reader: it gives the next row, or there was none
pub record ReadsRow (old new : Reader (Bor (List ℕ))) (found : Bool) (row : List (List ℕ)) : Type 0 where
  pub reading : IsReading new
  pub some : found ≡ true → rows_left old ≡ row ∷ rows_left new
  pub none : found ≡ false → rows_left old ≡ []

-- the rows after the current one
abbrev pub rest_of : Progress → Reader (Bor (List ℕ)) → List (List (List ℕ))
rest_of Reading reader = rows_left reader
rest_of progress reader = []

-- whether memory ran out
abbrev pub is_failed : Progress → Bool
is_failed Failed = true
is_failed progress = false

-- the reader reads the next row as it is, if there may be more rows
abbrev pub IsReadingIf : Progress → Reader (Bor (List ℕ)) → Type 0
IsReadingIf Reading reader = IsReading reader
IsReadingIf progress reader = Unit {0}
