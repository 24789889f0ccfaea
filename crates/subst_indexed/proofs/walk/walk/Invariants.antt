-- The output of the cells up to the index is appended.
use Rattle.std.proofs.Common.{length, ◌-◌}
use Rattle.subst_indexed.specs.Slot.{Agree}
use Rattle.subst_indexed.specs.Walk.{Advances}
use Rattle.subst_indexed.proofs.walk.walk.Given as goal

abbrev pub invariant-loop-cell : goal.invariant-loop-cell
invariant-loop-cell g l =
    Advances g.W.Output.holds g.W.Output.len g.W.Output.capacity (Agree g.V.AsSlot.known l.values) l.cells
    l.source l.initial.at l.at l.initial.output l.output

abbrev pub decreases-loop-cell : goal.decreases-loop-cell
decreases-loop-cell g l = length l.cells - l.at
