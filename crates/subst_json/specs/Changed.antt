-- A tree after a change of its values.
use Rattle.std.specs.Prelude.{List, [], ◌∷◌}
use Rattle.serde_json.specs.Data.{Data, null, boolean, number, string, array, object, Items, no_items, item, Members, no_members, member}
use Rattle.subst_document.specs.Changes.{text_after, inside}
use Rattle.subst_document.specs.declared.changes.Change.{Change}

-- The tree after a change. A change that doesn't fit a value leaves it as it is.
abbrev mutual
  pub changed : Data → Change → Data
  changed (string s) change = string (text_after s change)
  changed (array ds) change = array (with_items ds (inside change))
  changed (object ms) change = object (with_members ms (inside change))
  changed null change = null
  changed (boolean b) change = boolean b
  changed (number n) change = number n

  pub with_items : Items → List Change → Items
  with_items ds [] = ds
  with_items no_items (change ∷ changes) = no_items
  with_items (item d ds) (change ∷ changes) = item (changed d change) (with_items ds changes)

  pub with_members : Members → List Change → Members
  with_members ms [] = ms
  with_members no_members (change ∷ changes) = no_members
  with_members (member key d ms) (change ∷ changes) =
      member key (changed d change) (with_members ms changes)
