-- The value of a tree of the earlier language under a look-up.
use Rattle.std.specs.Prelude.{ℕ, ◌+◌, [], ◌∷◌, length}
use Rattle.subst_language.specs.Language.LookUp.{LookUp}
use Rattle.subst_language.specs.Language.Value.{Value, Bytes, Missing, joined, found_or}
use Rattle.subst_language.specs.Earlier.Tree.{Item, Plain, Escaped, Short, Braced, Default, Tree, Empty, Then, item_text}

abbrev mutual
  -- the value of an item whose text begins at position p
  pub item_value : ℕ → Item → LookUp → Value
  item_value p (Plain b) look = Bytes (b ∷ [])
  item_value p (Escaped b) look = Bytes (b ∷ [])
  item_value p (Short n) look = found_or (look n) (Missing (p + 1) n)
  item_value p (Braced n) look = found_or (look n) (Missing (p + 2) n)
  item_value p (Default n t) look = found_or (look n) (value (p + 3 + length n) t look)

  -- the joined values of the items of a tree whose text begins at position p
  pub value : ℕ → Tree → LookUp → Value
  value p Empty look = Bytes []
  value p (Then item rest) look =
      joined (item_value p item look) (value (p + length (item_text item)) rest look)
