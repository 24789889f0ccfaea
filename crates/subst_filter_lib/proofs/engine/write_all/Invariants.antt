-- The bytes before the index `at` were written, and no write has failed.
use Rattle.std.proofs.Common.{◌≡◌, length, take, ◌-◌, ◌≤◌}
use Rattle.std.specs.Io.KnownBytes.{Appends}
use Rattle.subst_filter_lib.proofs.engine.write_all.Given as goal

abbrev pub invariant-loop-at : goal.invariant-loop-at
invariant-loop-at g l =
    let written = g.O.ByteOutput.written in
    let has_failed = g.O.ByteOutput.has_failed in
    (l.at ≤ length l.bytes) × Appends (written l.initial.output) (written l.output) (take l.at l.bytes)
    × (has_failed l.output ≡ has_failed l.initial.output)

abbrev pub decreases-loop-at : goal.decreases-loop-at
decreases-loop-at g l = length l.bytes - l.at
