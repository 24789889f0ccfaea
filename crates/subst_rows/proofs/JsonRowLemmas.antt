-- The cells of a JSON line.
use borrow.Author.Count.{below_more}
use Rattle.std.proofs.Common.{◌≡◌, ℕ, ◌+◌, ◌<◌, Bool, Option, Some, None, List, [], ◌∷◌, ◌++◌, length, sym, ap, ◌∙◌, arith}
use Rattle.std.specs.Option.{option_and_then, option_map}
use Rattle.std.specs.Prelude.{IfSome, slice_get}
use Rattle.json.specs.Find.{get_member}
use Rattle.json.specs.Json.{Json, Members}
use Rattle.json.specs.Tree.{HasNumbers}
use Rattle.subst_rows.specs.JsonRow.{cell_bytes, cell_value, json_cell}
use Rattle.subst_rows.specs.declared.json_row.JsonCell.{JsonCell}
use Rattle.subst_rows.proofs.ListLemmas.{slice_get-before, slice_get-last, some_injective}

-- the numbers of a value that was found are numbers
pub found_numbers : {V : Type 0} (view : V → Json) (found : Option V) (o : Option Json) → option_map view found ≡ o
    → ((part : Json) → Some part ≡ o → HasNumbers part) → IfSome found (λ v. HasNumbers (view v))
found_numbers view None o is numbers = tt
found_numbers view (Some v) o is numbers = numbers (view v) is

-- one more cell
pub cells_more : (nested : Bool) (names : List (List ℕ)) (ms : Members) (old new : List JsonCell) (cell : JsonCell)
    (n : ℕ) (name : List ℕ) → new ≡ old ++ cell ∷ [] → length old ≡ n → slice_get names n ≡ Some name
    → cell_value nested (get_member name ms) ≡ Some (cell_bytes cell)
    → ((index : ℕ) → index < n → (name : List ℕ) → slice_get names index ≡ Some name
    → cell_value nested (get_member name ms) ≡ Some (json_cell old index))
    → (index : ℕ) → index < n + 1 → (name : List ℕ) → slice_get names index ≡ Some name
    → cell_value nested (get_member name ms) ≡ Some (json_cell new index)
cells_more nested names ms old new cell n name is counted at found before =
    below_more (λ index. (name : List ℕ) → slice_get names index ≡ Some name
    → cell_value nested (get_member name ms) ≡ Some (json_cell new index)) n
    (λ index below other there. before index below other there
    ∙ ap (λ it. Some (option_and_then cell_bytes it))
    (sym (ap (λ all. slice_get all index) is ∙ slice_get-before old cell index (omega arith))))
    (λ other there. ap (λ it. cell_value nested (get_member it ms)) (some_injective (sym there ∙ at))
    ∙ found ∙ ap (λ it. Some (option_and_then cell_bytes it))
    (sym (ap (λ all. slice_get all n) is ∙ slice_get-last old cell n counted)))
