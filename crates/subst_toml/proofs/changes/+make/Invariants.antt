use Rattle.std.proofs.Common.{◌≤◌, ◌+◌, ◌*◌, List, ◌++◌, take, drop}
use Rattle.toml.specs.declared.value.Value.{Value}
use Rattle.subst_document.specs.Changes.{slots, remaining_of, AreMade}
use Rattle.subst_document.proofs.ChangeLemmas.{change_depth, changes_depth}
use Rattle.subst_toml.proofs.ChangedLemmas.{IsMade}
use Rattle.subst_toml.proofs.changes.+make.Given as goal

abbrev pub decreases-make : goal.decreases-make
decreases-make l = 3 * change_depth l.change

abbrev pub decreases-make_items : goal.decreases-make_items
decreases-make_items l = 3 * changes_depth l.changes.items + 1

abbrev pub decreases-make_members : goal.decreases-make_members
decreases-make_members l = 3 * changes_depth l.changes.items + 2

abbrev pub decreases-make_members-retain : goal.decreases-make_members-retain
decreases-make_members-retain l = 3 * changes_depth (remaining_of l.left) + 1

-- once the remaining items are changed, all are
abbrev pub invariant-make_items-loop-item : goal.invariant-make_items-loop-item
invariant-make_items-loop-item l =
    (changes_depth (remaining_of l.left) ≤ changes_depth l.fn.changes.items)
    × ((ws : List Value) → AreMade IsMade (drop l.item-index l.item-items) (remaining_of l.left) ws
    → AreMade IsMade l.fn.items.items (slots l.fn.changes.items) (take l.item-index l.item-items ++ ws))
