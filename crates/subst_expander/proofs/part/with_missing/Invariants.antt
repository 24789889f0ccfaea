-- The missing variables so far have their faults, after the given ones.
use Rattle.std.proofs.Common.{◌≡◌, ◌++◌, List, map}
use Rattle.subst.specs.Calls.Variables.{missing_variable}
use Rattle.subst_expander.specs.Faults.{AreMissing}
use Rattle.subst_expander.specs.Layers.{AreVariablesOf, Entry}
use Rattle.subst_expander.specs.declared.fault.Fault.{Fault}
use Rattle.subst_expander.proofs.part.with_missing.Given as goal

abbrev pub invariant-loop-e : goal.invariant-loop-e
invariant-loop-e l = (entries : List Entry) → AreVariablesOf l.variables entries → (missing : List Fault)
    × AreMissing l.fn.forms entries (map missing_variable l.yielded) missing
    × (l.all.items ≡ l.fn.faults.items ++ missing)
