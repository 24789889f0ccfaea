-- The list has only the fault that was appended.
use Rattle.std.proofs.Common.{refl}
use Rattle.subst_expander.specs.declared.fault.Fault.{Fault}
use Rattle.subst_expander.proofs.fault.one_fault.Goals as goal

pub returns : goal.returns
returns c =
    let fault : Fault = record { path = c.new.result; range = c.args.range; cause = c.args.cause } in
    (fault, rw c.new-faults.ensures.items at c.in_ok-push.ensures.items, c.new.ensures.bytes, (refl, refl))
