-- The forms so far have their faults.
use Rattle.std.specs.List.{AllZip}
use Rattle.subst_expander.specs.Faults.{IsForm}
use Rattle.subst_expander.proofs.part.refused_forms.Given as goal

abbrev pub invariant-loop-at : goal.invariant-loop-at
invariant-loop-at l = AllZip IsForm l.yielded l.faults.items
