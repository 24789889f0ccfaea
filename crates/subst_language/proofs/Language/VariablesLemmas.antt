-- The variables of trees, and the missing ones.
use Rattle.std.proofs.lemmas.Grind.{common_steps}
use Rattle.std.proofs.Common.{arith, ◌≡◌, ◌↔◌, ℕ, ◌+◌, List, [], ◌∷◌, ◌++◌, length, map, refl, ap, subst, append_assoc, length-append, add_assoc, add-zero}
use Rattle.std.proofs.lemmas.List.{map-append}
use Rattle.subst_language.specs.Language.Tree.{Item, Plain, Escaped, Short, Braced, Optional, Default, Tree, Empty, Then, item_text, text}
use Rattle.subst_language.specs.Language.Join.{join}
use Rattle.subst_language.specs.Language.LookUp.{LookUp}
use Rattle.subst_language.specs.Language.NamesIn.{names_in_item, names_in}
use Rattle.subst_language.specs.Language.Steps.{steps_of}
use Rattle.subst_language.specs.Language.Value.{Bytes, Missing, value}
use Rattle.subst_language.specs.Language.Variables.{Variable, required, name_of, item_variables, variables_of, all_missing}
use Rattle.subst_language.proofs.Language.PlainLemmas.{plains}
use Rattle.subst_language.proofs.Language.StepsLemmas.{Tells, value_tells}

mutual
  -- the names of an item's variables are the names in it
  item_names : (p : ℕ) (item : Item) → map name_of (item_variables p item) ≡ names_in_item item
  item_names p (Plain b) = refl
  item_names p (Escaped b) = refl
  item_names p (Short n) = refl
  item_names p (Braced n) = refl
  item_names p (Optional n) = refl
  item_names p (Default n t) = ap (λ names. n ∷ names) (variable_names (p + 3 + length n) t)

  -- the names of a tree's variables are the names in it
  pub variable_names : (p : ℕ) (t : Tree) → map name_of (variables_of p t) ≡ names_in t
  variable_names p Empty = refl
  variable_names p (Then item rest) =
      rw (map-append, item_names p item, variable_names (p + length (item_text item)) rest) refl

-- the variables of two trees concatenated are those of both
pub variables_of-join : (p : ℕ) (t u : Tree)
    → variables_of p (join t u) ≡ variables_of p t ++ variables_of (p + length (text t)) u
variables_of-join p Empty u = rw add-zero refl
variables_of-join p (Then item rest) u =
    rw (length-append, ← add_assoc, variables_of-join (p + length (item_text item)) rest u, append_assoc) refl

-- plain bytes have none
pub variables_of-plains : (p : ℕ) (x : List ℕ) → variables_of p (plains x) ≡ []
variables_of-plains p [] = refl
variables_of-plains p (b ∷ x) = variables_of-plains (p + 1) x

-- nothing is missing if and only if the value is bytes
pub none_missing : (p : ℕ) (t : Tree) (look : LookUp)
    → (all_missing p t look ≡ [] ↔ ((x : List ℕ) × (value p t look ≡ Bytes x)))
none_missing p t look =
    grind (arith, common_steps, value p t look, value_tells p t look, steps_of p t look, all_missing p t look)

-- if the value misses a variable, that is the first of all missing ones
pub missing_first : (p position : ℕ) (t : Tree) (look : LookUp) (name : List ℕ)
    → value p t look ≡ Missing position name
    → (more : List Variable) × (all_missing p t look ≡ required position name ∷ more)
missing_first p position t look name missing =
    subst (Tells (steps_of p t look)) missing (value_tells p t look)
