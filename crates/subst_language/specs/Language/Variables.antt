-- The variables of a tree, and all missing ones.
use Rattle.std.specs.Prelude.{ℕ, ◌+◌, List, [], ◌∷◌, ◌++◌, length, Option, Some, None, Bool, true, false}
use Rattle.std.specs.List.{filter_map}
use Rattle.std.specs.declared.ops.Range.{Range}
use Rattle.subst_error.specs.Range.{range_at}
use Rattle.subst_language.specs.Language.LookUp.{LookUp}
use Rattle.subst_language.specs.Language.Steps.{Step, Lacks, steps_of}
use Rattle.subst_language.specs.Language.Tree.{Item, Short, Braced, Optional, Default, Tree, Empty, Then, item_text}

-- how an unset variable expands: to a fault, to nothing, or to its default
pub data Kind : Type 0 where
  Required : Kind
  OrNothing : Kind
  OrDefault : Kind

-- whether an unset variable of this kind is a fault
abbrev pub is_required : Kind → Bool
is_required Required = true
is_required kind = false

-- a variable, with the position of its name
pub record Variable : Type 0 where
  pub position : ℕ
  pub name : List ℕ
  pub kind : Kind

-- the required variable whose name `name` is at `position`
abbrev pub required : ℕ → List ℕ → Variable
required position name = record { position = position; name = name; kind = Required }

-- the name of a variable
abbrev pub name_of : Variable → List ℕ
name_of variable = variable.name

-- the range of a variable's name, in bytes
abbrev pub name_range : Variable → Range ℕ
name_range variable = range_at variable.position (length variable.name)

abbrev mutual
  -- the variable of an item whose text begins at position p, and those in its default
  pub item_variables : ℕ → Item → List Variable
  item_variables p (Short n) = required (p + 1) n ∷ []
  item_variables p (Braced n) = required (p + 2) n ∷ []
  item_variables p (Optional n) = record { position = p + 2; name = n; kind = OrNothing } ∷ []
  item_variables p (Default n t) =
      record { position = p + 2; name = n; kind = OrDefault } ∷ variables_of (p + 3 + length n) t
  item_variables p item = []

  -- the variables of a tree whose text begins at position p, in the order of the text, also those in defaults
  pub variables_of : ℕ → Tree → List Variable
  variables_of p Empty = []
  variables_of p (Then item rest) =
      item_variables p item ++ variables_of (p + length (item_text item)) rest

-- the variable that a step lacks, or `None` if it lacks none
abbrev pub lacked : Step → Option Variable
lacked (Lacks position name) = Some (required position name)
lacked step = None

-- the missing variables of a tree whose text begins at position p, in the order of the text: those that are
-- needed but have no value. Variables in an unused default aren't needed
abbrev pub all_missing : ℕ → Tree → LookUp → List Variable
all_missing p t look = filter_map lacked (steps_of p t look)
