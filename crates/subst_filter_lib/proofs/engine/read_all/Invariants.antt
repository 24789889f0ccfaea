-- The bytes read so far are those that the input no longer has, no read has failed, and the chunk isn't
-- empty.
use Rattle.std.proofs.Common.{◌≡◌, ◌<◌, ◌^◌, ◌-◌, vec_len}
use Rattle.std.specs.Io.KnownBytes.{Consumes}
use Rattle.subst_filter_lib.proofs.engine.read_all.Given as goal

abbrev pub invariant-loop-count : goal.invariant-loop-count
invariant-loop-count g l =
    let left = g.I.ByteInput.left in
    let has_failed = g.I.ByteInput.has_failed in
    Consumes (left l.initial.input) (left l.input) l.all.items
    × (has_failed l.input ≡ has_failed l.initial.input) × (0 < vec_len l.chunk)

abbrev pub decreases-loop-count : goal.decreases-loop-count
decreases-loop-count g l = 2 ^ 64 - vec_len l.all
