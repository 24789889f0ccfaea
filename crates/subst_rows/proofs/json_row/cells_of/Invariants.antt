-- The cells of the names before the index.
use Rattle.std.proofs.Common.{◌≡◌, ◌<◌, ℕ, List, Some, length}
use Rattle.std.specs.Prelude.{slice_get}
use Rattle.json.specs.Find.{get_member}
use Rattle.json.specs.Value.{members_view}
use Rattle.subst_rows.specs.Columns.{bytes_of}
use Rattle.subst_rows.specs.JsonRow.{cell_value, json_cell}
use Rattle.subst_rows.proofs.json_row.cells_of.Given as goal

abbrev pub invariant-loop-number : goal.invariant-loop-number
invariant-loop-number l = record {
  counted : length l.cells.items ≡ l.number;
  found : (index : ℕ) → index < l.number → (name : List ℕ) → slice_get (bytes_of l.names) index ≡ Some name
      → cell_value l.nested (get_member name (members_view l.members.items))
      ≡ Some (json_cell l.cells.items index);
}
