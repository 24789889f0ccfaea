-- The rows of a text as look-ups by the names of the columns.
use Rattle.std.proofs.Common.{◌≡◌, ℕ, zero, suc, ◌+◌, Bool, true, false, Some, List, [], ◌∷◌, length, refl, sym, ap, ◌∙◌, subst, arith}
use Rattle.std.specs.Option.{option_and_then, option_map}
use Rattle.std.specs.Prelude.{slice_get, if◌then◌else◌}
use Rattle.std.specs.Str.{bytes_eq}
use Rattle.csv.specs.Reading.{strip_bom}
use Rattle.json.specs.Json.{Members}
use Rattle.subst_indexed.proofs.DistinctLemmas.{name_at}
use Rattle.subst_indexed.proofs.NumberingLemmas.{number_of-first}
use Rattle.subst_indexed.specs.Numbering.{number_of}
use Rattle.subst_rows.proofs.ListLemmas.{some_injective}
use Rattle.subst_rows.proofs.RowLemmas.{HasNumber}
use Rattle.subst_rows.specs.JsonLines.{rows_from}
use Rattle.subst_rows.specs.JsonRow.{AreCells, IsRowOf, json_cell}
use Rattle.subst_rows.specs.Row.{cell_look}
use Rattle.subst_rows.specs.Rows.{AreLineRows, IsLookUpIn, IsOpened, IsTableOf, ReadsRow}
use Rattle.subst_rows.specs.RowsView.{source_view}
use Rattle.subst_rows.specs.declared.json_row.JsonCell.{JsonCell}
use Rattle.subst_rows.specs.declared.rows.RowsFormat.TheVariants.{Csv, Tsv, JsonLines}
use Rattle.subst_rows.specs.declared.rows.Source.{Source}
use Rattle.subst_rows.specs.declared.rows.Source.TheVariants as source

-- a name has a number among names that begin with another one, by the test of the first
numbered_after : (first name : List ℕ) (rest : List (List ℕ)) (found : Bool) → bytes_eq first name ≡ found
    → HasNumber rest name → HasNumber (first ∷ rest) name
numbered_after first name rest true is after =
    (0, ap (λ b. if b then Some 0 else option_map (λ n. n + 1) (number_of rest name)) is)
numbered_after first name rest false is (number, after) = (
  number + 1,
  ap (λ b. if b then Some 0 else option_map (λ n. n + 1) (number_of rest name)) is
      ∙ ap (option_map (λ n. n + 1)) after,
)

-- each of the names has a number
numbered : (names : List (List ℕ)) (index : ℕ) (name : List ℕ) → slice_get names index ≡ Some name
    → HasNumber names name
numbered [] index name at = absurd cc
numbered (first ∷ rest) zero name at =
    (0, ap (number_of (first ∷ rest)) (sym (some_injective at)) ∙ number_of-first first rest)
numbered (first ∷ rest) (suc index) name at =
    numbered_after first name rest (bytes_eq first name) refl (numbered rest index name at)

-- the cells of the names in an object are a look-up
line_look : (nested : Bool) (names : List (List ℕ)) (ms : Members) (cells : List JsonCell)
    → AreCells nested names ms cells → IsLookUpIn nested names ms (cell_look names (json_cell cells))
line_look nested names ms cells are index name at =
    let (number, is) = numbered names index name at in
    are number name (name_at names name number is)
    ∙ ap (λ column. Some (option_and_then (json_cell cells) column)) (sym is)

-- a line that is read is the first row
pub line_read : (nested : Bool) (names : List (List ℕ)) (number : ℕ) (line : List ℕ) (cells : List JsonCell)
    (old new : List (ℕ × List ℕ)) (before after : Bool) → old ≡ (number, line) ∷ new
    → IsRowOf nested names line cells
    → ReadsRow (source_view (source.Json old) nested names before)
    (source_view (source.Json new) nested names after)
    (Some (cell_look names (json_cell cells)))
line_read nested names number line cells old new before after is (ms, read, unique, are) =
    let row = cell_look names (json_cell cells) in
    record {
      fewer = omega (arith, ap length is);
      rows = λ rows left. subst (λ lines. AreLineRows nested names lines (Some row ∷ rows)) (sym is)
          ((ms, read, unique, line_look nested names ms cells are), left);
    }

module _ (nested : Bool) (names : List (List ℕ)) (text : List ℕ) where
  pub csv_opened : (it : Source) → IsTableOf 44 text it
      → IsOpened Csv nested names text (source_view it nested names false)
  csv_opened (source.Table table) (checked, is) = record {
    checked = checked;
    head = (table.rest, is);
    nested_kept = refl;
    names_kept = refl;
    whole = refl;
    rows = λ rows are. (table.head, table.rest, is, are);
  }
  csv_opened (source.Json lines) is = absurd is

  pub tsv_opened : (it : Source) → IsTableOf 9 text it
      → IsOpened Tsv nested names text (source_view it nested names false)
  tsv_opened (source.Table table) (checked, is) = record {
    checked = checked;
    head = (table.rest, is);
    nested_kept = refl;
    names_kept = refl;
    whole = refl;
    rows = λ rows are. (table.head, table.rest, is, are);
  }
  tsv_opened (source.Json lines) is = absurd is

  pub lines_opened : (lines : List (ℕ × List ℕ)) → lines ≡ rows_from 1 [] (strip_bom text)
      → IsOpened JsonLines nested names text (source_view (source.Json lines) nested names false)
  lines_opened lines is = record {
    checked = tt;
    head = refl;
    nested_kept = refl;
    names_kept = refl;
    whole = refl;
    rows = λ rows are. subst (λ it. AreLineRows nested names it rows) is are;
  }
