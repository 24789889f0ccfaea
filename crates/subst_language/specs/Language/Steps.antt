-- The steps of an evaluation. They determine what it writes, how long its value is, and which variables are
-- missing.
use Rattle.std.specs.Prelude.{ℕ, ◌+◌, List, [], ◌∷◌, ◌++◌, length, Option, Some, None}
use Rattle.subst_language.specs.Language.LookUp.{LookUp}
use Rattle.subst_language.specs.Language.Tree.{Item, Plain, Escaped, Short, Braced, Optional, Default, Tree, Empty, Then, item_text}
use Rattle.subst_language.specs.Language.Value.{Value, Bytes, Missing, joined}

pub data Step : Type 0 where
  -- a plain or escaped byte of the tree
  Own : ℕ → Step
  -- the value of a name
  Given : List ℕ → Step
  -- a needed variable without a value, with the position of its name
  Lacks : (position : ℕ) → (name : List ℕ) → Step

-- the value of steps: the first missing variable, or else the bytes of all steps
abbrev pub steps_value : List Step → Value
steps_value [] = Bytes []
steps_value (Own b ∷ rest) = joined (Bytes (b ∷ [])) (steps_value rest)
steps_value (Given x ∷ rest) = joined (Bytes x) (steps_value rest)
steps_value (Lacks position name ∷ rest) = Missing position name

-- one step with the value that was found, or else the list `steps`
abbrev pub given_or : Option (List ℕ) → List Step → List Step
given_or (Some x) steps = Given x ∷ []
given_or None steps = steps

abbrev mutual
  -- the steps of an item whose text begins at position p
  pub item_steps : ℕ → Item → LookUp → List Step
  item_steps p (Plain b) look = Own b ∷ []
  item_steps p (Escaped b) look = Own b ∷ []
  item_steps p (Short n) look = given_or (look n) (Lacks (p + 1) n ∷ [])
  item_steps p (Braced n) look = given_or (look n) (Lacks (p + 2) n ∷ [])
  item_steps p (Optional n) look = given_or (look n) []
  item_steps p (Default n t) look = given_or (look n) (steps_of (p + 3 + length n) t look)

  -- the steps of a tree whose text begins at position p, in the order of the text
  pub steps_of : ℕ → Tree → LookUp → List Step
  steps_of p Empty look = []
  steps_of p (Then item rest) look =
      item_steps p item look ++ steps_of (p + length (item_text item)) rest look
