-- The buffer begins with the records so far, and the rest of it is unchanged.
use Rattle.std.proofs.Common.{◌≡◌, ◌++◌, drop, map, take}
use Rattle.subst_c.proofs.variables.deliver.Given as goal

abbrev pub invariant-loop-i : goal.invariant-loop-i
invariant-loop-i g l =
    l.buffer ≡ map g.T.Recorded.recorded (take l.i l.list) ++ drop l.i l.initial.buffer
