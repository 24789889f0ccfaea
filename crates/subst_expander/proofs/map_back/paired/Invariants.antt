-- The pairs so far are in the map.
use Rattle.subst_expander.specs.MapBack.{ArePaired}
use Rattle.subst_expander.proofs.map_back.paired.Given as goal

abbrev pub invariant-loop-variable : goal.invariant-loop-variable
invariant-loop-variable l = ArePaired l.yielded l.counterparts
