use Rattle.std.proofs.Common.{◌+◌, ◌-◌, ◌≤◌, length}
use Rattle.subst_json.proofs.place.spelling_len.Given as goal

-- neither sum overflows
abbrev pub invariant-loop-spelled : goal.invariant-loop-spelled
invariant-loop-spelled l = (l.spelled ≤ l.len) × (l.len ≤ length l.token + 6)

abbrev pub decreases-loop-spelled : goal.decreases-loop-spelled
decreases-loop-spelled l = length l.token - l.len
