-- No member from the index on has the key.
use Rattle.std.proofs.Common.{◌≡◌, ◌≤◌, length, take}
use Rattle.json.specs.Find.{get_member}
use Rattle.json.specs.Value.{members_view}
use Rattle.subst_rows.proofs.json_row.find.Given as goal

abbrev pub invariant-loop-left : goal.invariant-loop-left
invariant-loop-left l = record {
  found : get_member l.key (members_view l.members.items)
      ≡ get_member l.key (members_view (take l.left l.members.items));
  within : l.left ≤ length l.members.items;
}

abbrev pub decreases-loop-left : goal.decreases-loop-left
decreases-loop-left l = l.left
