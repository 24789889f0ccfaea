use Rattle.std.proofs.Common.{◌≡◌, List, ◌++◌, length, take}
use Rattle.toml.specs.View.{items_view, members_view}
use Rattle.toml.proofs.Views.{Entry}
use Rattle.subst_toml.proofs.document.same.+same.Given as goal

-- the items so far are equal
abbrev pub invariant-are_same-loop-index : goal.invariant-are_same-loop-index
invariant-are_same-loop-index l =
    items_view (take l.index l.item-items) ≡ items_view (take l.index l.other.items)

-- the members so far are equal
abbrev pub invariant-is_same_table-loop-key : goal.invariant-is_same_table-loop-key
invariant-is_same_table-loop-key l = (done : List Entry) × (others : List Entry)
    × (l.members.entries ≡ done ++ l.key-iterator) × (l.other.entries ≡ others ++ l.others)
    × (length done ≡ length others) × (members_view done ≡ members_view others)
