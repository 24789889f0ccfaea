-- The lines that were passed over are blank.
use Rattle.std.proofs.Common.{◌≡◌, ◌+◌, ◌<◌, ◌^◌, [], length}
use Rattle.subst_rows.specs.JsonLines.{rows_from}
use Rattle.subst_rows.proofs.json_lines.next_line.Given as goal

abbrev pub invariant-loop-rest : goal.invariant-loop-rest
invariant-loop-rest l = record {
  rows : rows_from (l.read + 1) [] l.rest ≡ rows_from (l.fn.read + 1) [] l.fn.text;
  bound : l.read + length l.rest < 2 ^ 63;
}

abbrev pub decreases-loop-rest : goal.decreases-loop-rest
decreases-loop-rest l = length l.rest
