-- The names in a tree.
use Rattle.std.specs.Prelude.{ℕ, List, [], ◌∷◌, ◌++◌}
use Rattle.subst_language.specs.Language.Tree.{Item, Plain, Escaped, Short, Braced, Optional, Default, Tree, Empty, Then}

abbrev mutual
  -- the names in an item: that of its variable, and those in its default
  pub names_in_item : Item → List (List ℕ)
  names_in_item (Plain b) = []
  names_in_item (Escaped b) = []
  names_in_item (Short n) = n ∷ []
  names_in_item (Braced n) = n ∷ []
  names_in_item (Optional n) = n ∷ []
  names_in_item (Default n t) = n ∷ names_in t

  -- the names of a tree's variables, including those in defaults, in their order in the tree's text
  pub names_in : Tree → List (List ℕ)
  names_in Empty = []
  names_in (Then item rest) = names_in_item item ++ names_in rest
