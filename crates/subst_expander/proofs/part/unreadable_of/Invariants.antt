-- The variables so far whose values aren't UTF-8 have their faults.
use Rattle.std.proofs.Common.{List, map}
use Rattle.subst.specs.Calls.Variables.{variable_of}
use Rattle.subst_expander.specs.Faults.{AreUnreadable}
use Rattle.subst_expander.specs.Layers.{AreVariablesOf, Entry}
use Rattle.subst_expander.proofs.part.unreadable_of.Given as goal

abbrev pub invariant-loop-variable : goal.invariant-loop-variable
invariant-loop-variable l = (entries : List Entry) → AreVariablesOf l.variables entries
    → AreUnreadable l.fn.forms entries (map variable_of l.yielded) l.faults.items
