-- The values of a template's names, by number, and their look-up by name.
use denote.Ref.{Bor}
use Rattle.std.specs.Prelude.{◌≡◌, ℕ, List, map, Some}
use Rattle.subst_indexed.specs.Expansion.{Values}
use Rattle.subst_indexed.specs.Numbering.{first_uses, names_of, number_of}
use Rattle.subst_language.specs.Language.LookUp.{LookUp}
use Rattle.subst_language.specs.Language.Tree.{Tree}
use Rattle.subst_language.specs.Language.Variables.{variables_of}

-- the bytes of borrowed names
abbrev pub bytes_of : List (Bor (List ℕ)) → List (List ℕ)
bytes_of names = map (λ name. name.now) names

-- the names of a template's tree, by number
abbrev pub names_at : Tree → List (List ℕ)
names_at t = names_of (first_uses (variables_of 0 t))

-- the value with the number of a name is the one that the look-up has for the name
abbrev pub AreValuesOf : List (List ℕ) → LookUp → Values → Type 0
AreValuesOf names look values =
    (name : List ℕ) (number : ℕ) → number_of names name ≡ Some number → values number ≡ look name
