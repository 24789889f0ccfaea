-- The cells of a JSON line.
use Rattle.std.specs.Prelude.{◌≡◌, ℕ, List, Bool, true, false, Option, Some, None, IsSomeAnd, IsUtf8, codes, slice_get, if◌then◌else◌}
use Rattle.std.specs.Option.{option_and_then}
use Rattle.json.specs.Find.{as_object, get_member}
use Rattle.json.specs.Json.{Json, null, boolean, number, string, array, object, Members, document}
use Rattle.json.specs.Print.{print}
use Rattle.json.specs.Strict.{HasUniqueKeys}
use Rattle.json.specs.Tree.{json_tokens}
use Rattle.json.specs.declared.error.Error.{Error}
use Rattle.json.specs.declared.error.Error.TheVariants as parsing
use Rattle.subst_rows.specs.declared.error.RowsError.{RowsError}
use Rattle.subst_rows.specs.declared.error.RowsError.TheVariants.{OutOfMemory, NotUtf8, NotJson, KeyTwice, NotAnObject, Nested}
use Rattle.subst_rows.specs.declared.json_row.JsonCell.{JsonCell}
use Rattle.subst_rows.specs.declared.json_row.JsonCell.TheVariants as cells

-- the bytes of a cell
abbrev pub cell_bytes : JsonCell → Option (List ℕ)
cell_bytes cells.Missing = None
cell_bytes (cells.Text text) = Some text.now
cell_bytes (cells.Nested text) = Some text.items

-- the bytes of the cell in a column
abbrev pub json_cell : List JsonCell → ℕ → Option (List ℕ)
json_cell cells column = option_and_then cell_bytes (slice_get cells column)

-- the bytes of a member's cell, or `None` if the cell is missing; nothing if the member is an array or an
-- object and `nested` isn't set
abbrev pub cell_value : (nested : Bool) → Option Json → Option (Option (List ℕ))
cell_value nested None = Some None
cell_value nested (Some null) = Some None
cell_value nested (Some (boolean true)) = Some (Some (codes "true"))
cell_value nested (Some (boolean false)) = Some (Some (codes "false"))
cell_value nested (Some (number s)) = Some (Some s)
cell_value nested (Some (string s)) = Some (Some s)
cell_value nested (Some (array js)) = if nested then Some (Some (print (json_tokens (array js)))) else None
cell_value nested (Some (object ms)) = if nested then Some (Some (print (json_tokens (object ms)))) else None

-- the cells are those of the names in the members of an object
abbrev pub AreCells : (nested : Bool) → (names : List (List ℕ)) → Members → List JsonCell → Type 0
AreCells nested names ms cells =
    (index : ℕ) (name : List ℕ) → slice_get names index ≡ Some name
    → cell_value nested (get_member name ms) ≡ Some (json_cell cells index)

-- the cells are those of the names in a line, which is an object without a key twice
abbrev pub IsRowOf : (nested : Bool) → (names : List (List ℕ)) → List ℕ → List JsonCell → Type 0
IsRowOf nested names line cells =
    (ms : Members) × (document line ≡ Some (object ms)) × HasUniqueKeys (object ms)
    × AreCells nested names ms cells

-- the member with the name that has this index is an array or an object, and `nested` isn't set
pub record IsNested (nested : Bool) (names : List (List ℕ)) (ms : Members) (index : ℕ) : Type 0 where
  pub name : List ℕ
  pub at : slice_get names index ≡ Some name
  pub refused : cell_value nested (get_member name ms) ≡ None

-- the error of the members of an object on a line
abbrev pub IsRefusedName : (nested : Bool) → (names : List (List ℕ)) → (line : ℕ) → Members → RowsError → Type 0
IsRefusedName nested names line ms OutOfMemory = Unit {0}
IsRefusedName nested names line ms (Nested at index) = (at ≡ line) × IsNested nested names ms index
IsRefusedName nested names line ms e = ⊥

-- the error of the value on a line
abbrev pub IsRefusedValue : (nested : Bool) → (names : List (List ℕ)) → (line : ℕ) → Json → RowsError → Type 0
IsRefusedValue nested names line j OutOfMemory = Unit {0}
IsRefusedValue nested names line j (NotAnObject at) = (at ≡ line) × (as_object j ≡ None)
IsRefusedValue nested names line j (Nested at index) =
    (at ≡ line) × (ms : Members) × (j ≡ object ms) × IsNested nested names ms index
IsRefusedValue nested names line j e = ⊥

-- the error of a line that isn't read
abbrev pub refusal_of : Error → (line : ℕ) → RowsError
refusal_of parsing.Invalid line = NotJson line
refusal_of parsing.DuplicateKey line = KeyTwice line
refusal_of e line = OutOfMemory

-- the error of the line with this number
abbrev pub IsRefusedLine : (nested : Bool) → (names : List (List ℕ)) → (line : ℕ) → List ℕ → RowsError → Type 0
IsRefusedLine nested names line bytes OutOfMemory = Unit {0}
IsRefusedLine nested names line bytes (NotUtf8 at) = (at ≡ line) × ¬ (IsUtf8 bytes)
IsRefusedLine nested names line bytes (NotJson at) = (at ≡ line) × (document bytes ≡ None)
IsRefusedLine nested names line bytes (KeyTwice at) =
    (at ≡ line) × IsSomeAnd (document bytes) (λ j. ¬ (HasUniqueKeys j))
IsRefusedLine nested names line bytes (NotAnObject at) =
    (at ≡ line) × IsSomeAnd (document bytes) (λ j. as_object j ≡ None)
IsRefusedLine nested names line bytes (Nested at index) =
    (at ≡ line) × (ms : Members) × (document bytes ≡ Some (object ms)) × IsNested nested names ms index
IsRefusedLine nested names line bytes e = ⊥
