-- The faults so far are reported with their spans.
use Rattle.std.proofs.Common.{◌≡◌, ◌++◌, List}
use Rattle.std.specs.List.{AllZip}
use Rattle.subst_expander.specs.Documents.{IsReported}
use Rattle.subst_expander.specs.declared.fault.Fault.{Fault}
use Rattle.subst_expander.proofs.document.add_faults.Given as goal

abbrev pub invariant-loop-fault : goal.invariant-loop-fault
invariant-loop-fault l = (reported : List Fault) × (l.all.items ≡ l.fn.all.items ++ reported)
    × AllZip (IsReported l.path) l.yielded reported
