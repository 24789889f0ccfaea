-- A cursor over the rows of a text as the rows that are left.
use Rattle.std.specs.Prelude.{ℕ, List, length, Bool}
use Rattle.subst_rows.specs.declared.rows.Source.{Source}
use Rattle.subst_rows.specs.declared.rows.Source.TheVariants as source

-- the records of a table, or the lines of JSON Lines with their numbers
pub data Left : Type 0 where
  Records : List (List (List ℕ)) → Left
  Lines : List (ℕ × List ℕ) → Left

-- the names of the columns, whether nested values are wanted, the names of the template, what is left, and
-- whether memory ran out
pub record RowsView : Type 0 where
  pub head : List (List ℕ)
  pub nested : Bool
  pub names : List (List ℕ)
  pub left : Left
  pub failed : Bool

-- the names of the columns
abbrev pub head_of : Source → (names : List (List ℕ)) → List (List ℕ)
head_of (source.Table table) names = table.head
head_of (source.Json lines) names = names

-- the records or lines that are left
abbrev pub left_of : Source → Left
left_of (source.Table table) = Records table.rest
left_of (source.Json lines) = Lines lines

-- a source of rows, as contracts see it
abbrev pub source_view : Source → (nested : Bool) → (names : List (List ℕ)) → (failed : Bool) → RowsView
source_view source nested names failed = record {
  head = head_of source names;
  nested = nested;
  names = names;
  left = left_of source;
  failed = failed;
}

-- how many records or lines are left
abbrev pub count_left : Left → ℕ
count_left (Records records) = length records
count_left (Lines lines) = length lines
