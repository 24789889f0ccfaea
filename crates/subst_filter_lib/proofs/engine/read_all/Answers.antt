-- At first nothing is read, and the chunk isn't empty.
use Rattle.std.proofs.Common.{arith, refl}
use Rattle.std.proofs.KnownBytes.{Consumes-nil}
use Rattle.subst_filter_lib.proofs.engine.read_all.Goals as goal

pub loop-count-init : goal.loop-count-init
loop-count-init g c =
    (rw c.new-all.ensures.items (Consumes-nil _), refl, omega (arith, c.in_ok-chunk.ensures.len))
