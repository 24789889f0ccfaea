-- A tree after a change of its values.
use Rattle.std.specs.Prelude.{List, [], ◌∷◌}
use Rattle.toml.specs.Data.{Data, string, integer, float, boolean, datetime, array, table, Items, no_items, item, Members, no_members, member}
use Rattle.subst_document.specs.Changes.{text_after, inside}
use Rattle.subst_document.specs.declared.changes.Change.{Change}

-- The tree after a change. A change that doesn't fit a value leaves it as it is.
abbrev mutual
  pub changed : Data → Change → Data
  changed (string s) change = string (text_after s change)
  changed (array ds) change = array (with_items ds (inside change))
  changed (table ms) change = table (with_members ms (inside change))
  changed (integer z) change = integer z
  changed (float x) change = float x
  changed (boolean b) change = boolean b
  changed (datetime t) change = datetime t

  pub with_items : Items → List Change → Items
  with_items ds [] = ds
  with_items no_items (change ∷ changes) = no_items
  with_items (item d ds) (change ∷ changes) = item (changed d change) (with_items ds changes)

  pub with_members : Members → List Change → Members
  with_members ms [] = ms
  with_members no_members (change ∷ changes) = no_members
  with_members (member key d ms) (change ∷ changes) =
      member key (changed d change) (with_members ms changes)
