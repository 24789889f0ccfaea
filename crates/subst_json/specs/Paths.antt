-- Paths into a JSON tree, and the strings that they lead to.
use Rattle.std.specs.Prelude.{◌≡◌, ℕ, List, [], ◌∷◌, Some, map}
use Rattle.serde_json.specs.Data.{Data, string}
use Rattle.serde_json.specs.Find.{get, at}
use Rattle.subst_document.specs.Paths.{PathStep, Key, Index, step_of}
use Rattle.subst_json.specs.declared.path.Path.{Path}

-- the steps of a path
abbrev pub steps_of : Path → List PathStep
steps_of path = map step_of path.steps.items

-- The path leads from the tree d to the string s. A key leads to the value that the reader finds for the key,
-- and an index to the item at the index.
abbrev pub Leads : List PathStep → Data → List ℕ → Type 0
Leads [] d s = d ≡ string s
Leads (Key key ∷ path) d s = (e : Data) × (get key d ≡ Some e) × Leads path e s
Leads (Index i ∷ path) d s = (e : Data) × (at i d ≡ Some e) × Leads path e s
