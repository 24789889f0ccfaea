-- The line ends counted are those up to here.
use Rattle.std.proofs.Common.{◌≡◌, ◌+◌, ◌≤◌}
use Rattle.subst_rows.specs.Lines.{line_ends}
use Rattle.subst_rows.proofs.lines.ends_between.Given as goal

abbrev pub invariant-loop-at : goal.invariant-loop-at
invariant-loop-at l = record {
  counted : line_ends l.from l.text + l.count ≡ line_ends l.at l.text;
  bound : l.from + l.count ≤ l.at;
}
