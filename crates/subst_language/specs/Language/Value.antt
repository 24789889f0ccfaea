-- The value of a tree under a look-up.
use Rattle.std.specs.Prelude.{ℕ, ◌+◌, List, [], ◌∷◌, ◌++◌, length, Option, Some, None}
use Rattle.subst_language.specs.Language.LookUp.{LookUp}
use Rattle.subst_language.specs.Language.Tree.{Item, Plain, Escaped, Short, Braced, Optional, Default, Tree, Empty, Then, item_text}

-- the bytes that a tree expands to, or the first needed name without a value, with its position in the whole
-- source
pub data Value : Type 0 where
  Bytes : List ℕ → Value
  Missing : (position : ℕ) → (name : List ℕ) → Value

-- two values joined: the first missing variable, else the bytes of both
abbrev pub joined : Value → Value → Value
joined (Missing position name) v = Missing position name
joined (Bytes x) (Missing position name) = Missing position name
joined (Bytes x) (Bytes y) = Bytes (x ++ y)

-- the value that was found, else v
abbrev pub found_or : Option (List ℕ) → Value → Value
found_or (Some x) v = Bytes x
found_or None v = v

abbrev mutual
  -- The value of an item whose text begins at position p. The value of a byte is the byte, and that of a
  -- variable is the look-up's value for its name. If the look-up has none, an optional variable is empty, a
  -- variable with a default has the default's value, and any other variable is missing.
  pub item_value : ℕ → Item → LookUp → Value
  item_value p (Plain b) look = Bytes (b ∷ [])
  item_value p (Escaped b) look = Bytes (b ∷ [])
  item_value p (Short n) look = found_or (look n) (Missing (p + 1) n)
  item_value p (Braced n) look = found_or (look n) (Missing (p + 2) n)
  item_value p (Optional n) look = found_or (look n) (Bytes [])
  item_value p (Default n t) look = found_or (look n) (value (p + 3 + length n) t look)

  -- the joined values of the items of a tree whose text begins at position p
  pub value : ℕ → Tree → LookUp → Value
  value p Empty look = Bytes []
  value p (Then item rest) look =
      joined (item_value p item look) (value (p + length (item_text item)) rest look)
