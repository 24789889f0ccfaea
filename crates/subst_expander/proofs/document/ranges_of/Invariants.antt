use Rattle.std.proofs.Common.{◌≡◌, take}
use Rattle.subst_expander.specs.Documents.{ranges_of}
use Rattle.subst_expander.proofs.document.ranges_of.Given as goal

abbrev pub invariant-loop-fault : goal.invariant-loop-fault
invariant-loop-fault l = l.ranges.items ≡ ranges_of (take l.fault-index l.faults)
