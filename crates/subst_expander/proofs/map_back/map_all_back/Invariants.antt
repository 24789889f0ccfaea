-- The faults so far are mapped back.
use Rattle.subst_expander.specs.MapBack.{AreMapped}
use Rattle.subst_expander.proofs.map_back.map_all_back.Given as goal

abbrev pub invariant-loop-fault : goal.invariant-loop-fault
invariant-loop-fault l = AreMapped l.fn.chosen.forms l.fn.counterparts l.yielded l.all.items
