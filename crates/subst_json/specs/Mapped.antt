-- A tree whose strings are filled in, with its keys, its shape and all other values kept.
use Rattle.std.specs.Prelude.{◌≡◌, ⊤, ℕ, List, [], ◌∷◌, ◌++◌}
use Rattle.serde_json.specs.Data.{Data, null, boolean, number, string, array, object, Items, no_items, item, Members, no_members, member}
use Rattle.subst_language.specs.Language.LookUp.{LookUp}
use Rattle.subst_language.specs.Language.Several.{GivesBy, under}

-- The strings of a tree, without the keys. Those of an array are in the order of its items. Those of an
-- object are in the order of its members, which the reader sorts by the bytes of their keys.
abbrev mutual
  pub strings : Data → List (List ℕ)
  strings (string s) = s ∷ []
  strings (array ds) = strings_of_items ds
  strings (object ms) = strings_of_members ms
  strings null = []
  strings (boolean b) = []
  strings (number n) = []

  pub strings_of_items : Items → List (List ℕ)
  strings_of_items no_items = []
  strings_of_items (item d ds) = strings d ++ strings_of_items ds

  pub strings_of_members : Members → List (List ℕ)
  strings_of_members no_members = []
  strings_of_members (member key d ms) = strings d ++ strings_of_members ms

-- The second tree is the first one with its strings filled in. Each number equals its counterpart, but the
-- two may be printed differently.
abbrev mutual
  pub IsEach : (List ℕ → List ℕ → Type 0) → Data → Data → Type 0
  IsEach Becomes (string s) (string x) = Becomes s x
  IsEach Becomes (array ds) (array es) = AreEach Becomes ds es
  IsEach Becomes (object ms) (object ns) = HasEachMember Becomes ms ns
  IsEach Becomes null null = ⊤
  IsEach Becomes (boolean b) (boolean c) = b ≡ c
  IsEach Becomes (number m) (number n) = m ≡ n
  IsEach Becomes _ _ = ⊥

  pub AreEach : (List ℕ → List ℕ → Type 0) → Items → Items → Type 0
  AreEach Becomes no_items no_items = ⊤
  AreEach Becomes (item d ds) (item e es) = IsEach Becomes d e × AreEach Becomes ds es
  AreEach Becomes _ _ = ⊥

  pub HasEachMember : (List ℕ → List ℕ → Type 0) → Members → Members → Type 0
  HasEachMember Becomes no_members no_members = ⊤
  HasEachMember Becomes (member key d ms) (member other e ns) =
      (key ≡ other) × IsEach Becomes d e × HasEachMember Becomes ms ns
  HasEachMember Becomes _ _ = ⊥

-- the second tree is the first one with each string expanded, under this look-up
abbrev pub IsMapped : LookUp → Data → Data → Type 0
IsMapped look = IsEach (GivesBy (under look))
