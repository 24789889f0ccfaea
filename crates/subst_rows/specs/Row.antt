-- The values of a template's names in a row.
use Rattle.std.specs.Prelude.{◌≡◌, ℕ, List, [], ◌∷◌, Bool, Option, Some, None, slice_get, if◌then◌else◌}
use Rattle.std.specs.Option.{option_and_then, option_or}
use Rattle.subst_indexed.specs.Expansion.{Values}
use Rattle.subst_indexed.specs.Numbering.{number_of}
use Rattle.subst_indexed.specs.Slot.{values_of}
use Rattle.subst_language.specs.Language.LookUp.{LookUp}
use Rattle.subst_rows.specs.declared.row.Sources.{Sources}

-- a cell, or `None` if it is empty and empty cells count as missing
abbrev pub given_or_none : (no_empty : Bool) → Option (List ℕ) → Option (List ℕ)
given_or_none no_empty None = None
given_or_none no_empty (Some []) = if no_empty then None else Some []
given_or_none no_empty (Some (b ∷ bytes)) = Some (b ∷ bytes)

-- the cells by column, without those that count as missing
abbrev pub given_cell : (no_empty : Bool) → (ℕ → Option (List ℕ)) → ℕ → Option (List ℕ)
given_cell no_empty cells column = given_or_none no_empty (cells column)

-- the column with a number
abbrev pub column_at : List (Option ℕ) → ℕ → Option ℕ
column_at columns number = option_and_then (λ column. column) (slice_get columns number)

-- the cell in the column with a number, or `None` if it counts as missing
abbrev pub kept_cell : Sources → (ℕ → Option (List ℕ)) → ℕ → Option (List ℕ)
kept_cell sources cells number =
    option_and_then (given_cell sources.no_empty cells) (column_at sources.columns.now number)

-- the value with a number: a fixed one, else the row's cell, else a fallback
abbrev pub value_in : Sources → (ℕ → Option (List ℕ)) → Values
value_in sources cells number =
    option_or (values_of sources.fixed.now number)
    (option_or (kept_cell sources cells number) (values_of sources.fallback.now number))

-- the values by number are those of a look-up by name
abbrev pub IsLookOf : (names : List (List ℕ)) → Values → LookUp → Type 0
IsLookOf names values look =
    (number : ℕ) (name : List ℕ) → slice_get names number ≡ Some name → values number ≡ look name

-- the cell in the first column of a head with a name
abbrev pub cell_look : (head : List (List ℕ)) → (cells : ℕ → Option (List ℕ)) → LookUp
cell_look head cells name = option_and_then cells (number_of head name)

-- the look-up of a row: a fixed value, else the row's cell, else a fallback
abbrev pub row_look : (head : List (List ℕ)) → (cells : ℕ → Option (List ℕ)) → (fixed fallback : LookUp) → LookUp
row_look head cells fixed fallback name =
    option_or (fixed name) (option_or (cell_look head cells name) (fallback name))

-- the look-up in a row that is a look-up: a fixed value, else the row's cell, else a fallback
abbrev pub look_in_row : (no_empty : Bool) → (row fixed fallback : LookUp) → LookUp
look_in_row no_empty row fixed fallback name =
    option_or (fixed name) (option_or (given_or_none no_empty (row name)) (fallback name))
