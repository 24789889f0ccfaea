-- The number of a tree's parts, and of those that an expansion visits.
use Rattle.std.specs.Prelude.{ℕ, ◌+◌, List, Option, Some, None, Bool, true, false, if◌then◌else◌}
use Rattle.subst_language.specs.Language.LookUp.{LookUp}
use Rattle.subst_language.specs.Language.Tree.{Item, Plain, Escaped, Short, Braced, Optional, Default, Tree, Empty, Then}

-- the item is a plain byte
abbrev pub is_plain : Item → Bool
is_plain (Plain b) = true
is_plain _ = false

-- 0 if a value was found, else n
abbrev pub if_missing : Option (List ℕ) → ℕ → ℕ
if_missing (Some x) n = 0
if_missing None n = n

abbrev mutual
  -- The number of an item's parts that an expansion visits. `after_plain` is true if a plain item precedes
  -- the item. A run of plain items is one part, counted at its first item. An item with a default is one
  -- part, plus the default's visited parts if the name has no value. Any other item is one part.
  pub item_visited_count : (after_plain : Bool) → Item → LookUp → ℕ
  item_visited_count after_plain (Plain b) look = if after_plain then 0 else 1
  item_visited_count after_plain (Escaped b) look = 1
  item_visited_count after_plain (Short n) look = 1
  item_visited_count after_plain (Braced n) look = 1
  item_visited_count after_plain (Optional n) look = 1
  item_visited_count after_plain (Default n t) look =
      1 + if_missing (look n) (visited_count_after false t look)

  -- the number of a tree's parts that an expansion visits; `after_plain` is whether the item before the tree
  -- is plain
  pub visited_count_after : (after_plain : Bool) → Tree → LookUp → ℕ
  visited_count_after after_plain Empty look = 0
  visited_count_after after_plain (Then item rest) look =
      item_visited_count after_plain item look + visited_count_after (is_plain item) rest look

-- the number of a tree's parts that an expansion visits
abbrev pub visited_count : Tree → LookUp → ℕ
visited_count t look = visited_count_after false t look

-- the number of a tree's parts: those that an expansion visits if no name has a value
abbrev pub part_count : Tree → ℕ
part_count t = visited_count t (λ name. None)
