-- The columns of a table, whose head has their names, and the names of a template.
use denote.Ref.{Bor}
use Rattle.std.specs.Prelude.{◌≡◌, ℕ, ◌+◌, ◌<◌, List, [], ◌∷◌, map, take, Option, Some, None, is_some, slice_get, if◌then◌else◌}
use Rattle.subst_indexed.specs.Numbering.{first_uses, names_of, number_of}
use Rattle.subst_language.specs.Language.Name.{IsName}
use Rattle.subst_language.specs.Language.Tree.{Tree}
use Rattle.subst_language.specs.Language.Variables.{variables_of}

-- the bytes of borrowed names
abbrev pub bytes_of : List (Bor (List ℕ)) → List (List ℕ)
bytes_of names = map (λ name. name.now) names

-- the names of a template's tree, by number
abbrev pub names_at : Tree → List (List ℕ)
names_at t = names_of (first_uses (variables_of 0 t))

-- the column of each name in a head
abbrev pub columns_in : (head names : List (List ℕ)) → List (Option ℕ)
columns_in head names = map (number_of head) names

-- the indices of those of the names that aren't among the others; the first name has the index `at`
abbrev pub unmatched_from : (others : List (List ℕ)) → (at : ℕ) → (names : List (List ℕ)) → List ℕ
unmatched_from others at [] = []
unmatched_from others at (name ∷ names) =
    if is_some (number_of others name) then unmatched_from others (at + 1) names
    else at ∷ unmatched_from others (at + 1) names

-- the name with this index can be spelled, and is equal to an earlier one
pub record IsRepeated (names : List (List ℕ)) (index : ℕ) : Type 0 where
  pub name : List ℕ
  pub at : slice_get names index ≡ Some name
  pub spelled : IsName name
  pub earlier : ℕ
  pub before : number_of (take index names) name ≡ Some earlier

-- the result is the first index of a repeated name, or `None` if no name is repeated
abbrev pub IsFirstRepeated : List (List ℕ) → Option ℕ → Type 0
IsFirstRepeated names None = (index : ℕ) → IsRepeated names index → ⊥
IsFirstRepeated names (Some first) =
    IsRepeated names first × ((index : ℕ) → index < first → IsRepeated names index → ⊥)
