use Rattle.std.proofs.Common.{◌≡◌, IsTrue, List, ◌++◌, length, take}
use Rattle.std.specs.Map.{values_of}
use Rattle.toml.specs.View.{items_view, members_view}
use Rattle.toml.specs.declared.value.Value.{Value}
use Rattle.subst_language.specs.Language.Several.{GivesBy}
use Rattle.subst_document.specs.Changes.{has_other, found_so_far, AreMade}
use Rattle.subst_document.specs.Stays.{SomeChanges}
use Rattle.subst_toml.specs.Mapped.{strings_of_items, strings_of_members}
use Rattle.subst_toml.proofs.ChangedLemmas.{GivesEach}
use Rattle.subst_toml.proofs.changes.+find.Given as goal

-- the changes of the items so far are found
abbrev pub invariant-change_of_items-loop-item : goal.invariant-change_of_items-loop-item
invariant-change_of_items-loop-item g l = (length (found_so_far l.found) ≡ l.item-index)
    × AreMade (GivesEach (GivesBy (g.F.Fill.answers l.filler))) (take l.item-index l.item-items)
    (found_so_far l.found) (take l.item-index l.item-items)
    × (IsTrue (has_other l.found) → SomeChanges (GivesBy (g.F.Fill.answers l.filler))
    (strings_of_items (items_view l.item-items)))

-- the changes of the members' values so far are found
abbrev pub invariant-change_of_members-loop-member : goal.invariant-change_of_members-loop-member
invariant-change_of_members-loop-member g l = (done : List Value)
    × (values_of l.members.entries ≡ done ++ l.member-iterator)
    × (length (found_so_far l.found) ≡ length done)
    × AreMade (GivesEach (GivesBy (g.F.Fill.answers l.filler))) done (found_so_far l.found) done
    × (IsTrue (has_other l.found) → SomeChanges (GivesBy (g.F.Fill.answers l.filler))
    (strings_of_members (members_view l.members.entries)))
