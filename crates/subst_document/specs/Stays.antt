-- The strings of a text that change, and those that are unchanged.
use Rattle.std.specs.Prelude.{◌≡◌, ◌⊎◌, ⊤, ℕ, ◌+◌, Bool, true, false, List, [], ◌∷◌, ◌++◌, length}
use Rattle.subst_document.specs.declared.strings.ValueAt.{ValueAt}

-- the string x changes: it has a value that is another text
abbrev pub BecomesOther : (List ℕ → List ℕ → Type 0) → List ℕ → Type 0
BecomesOther Becomes x = (value : List ℕ) × Becomes x value × ¬ (value ≡ x)

-- at least one of these strings changes
abbrev pub SomeChanges : (List ℕ → List ℕ → Type 0) → List (List ℕ) → Type 0
SomeChanges Becomes [] = ⊥
SomeChanges Becomes (x ∷ strings) = BecomesOther Becomes x ⊎ SomeChanges Becomes strings

-- all of these strings are unchanged
abbrev pub AllStay : (List ℕ → List ℕ → Type 0) → List (List ℕ) → Type 0
AllStay Becomes [] = ⊤
AllStay Becomes (x ∷ strings) = Becomes x x × AllStay Becomes strings

-- `true` states that at least one of these strings changes; `false` states that all are unchanged and the
-- output is the source
abbrev pub StatesChange : (List ℕ → List ℕ → Type 0) → List (List ℕ) → (source : List ℕ) → (output : List ℕ)
    → Bool → Type 0
StatesChange Becomes strings source output true = SomeChanges Becomes strings
StatesChange Becomes strings source output false = AllStay Becomes strings × (output ≡ source)

-- `text` is the values of some of these strings, concatenated. `list` has the index of each such string and
-- the length of its value. Each other string is unchanged. The first string has the index `index`.
abbrev pub AreValues : (List ℕ → List ℕ → Type 0) → ℕ → List (List ℕ) → List ValueAt → List ℕ → Type 0
AreValues Becomes index [] list text = (list ≡ []) × (text ≡ [])
AreValues Becomes index (x ∷ strings) list text =
    (Becomes x x × AreValues Becomes (index + 1) strings list text)
    ⊎ ((value rest : List ℕ) × (more : List ValueAt) × (text ≡ value ++ rest)
    × (list ≡ record { index = index; len = length value } ∷ more) × Becomes x value
    × AreValues Becomes (index + 1) strings more rest)
