-- The bytes written, from the first state of the slice.
use Rattle.std.proofs.Common.{refl, rules, []}
use Rattle.subst_expand.proofs.ExpansionLemmas.{states_stop, named_stop}
use Rattle.subst_expand.proofs.expand.expand_into_slice.Goals as goal

pub returns-in-Ok-clause-value : goal.returns-in-Ok-clause-value
returns-in-Ok-clause-value g c = λ bytes reads.
    let given = c.in-Ok.ensures.written.given bytes reads in
    let holds = given.puts record { name = _; bytes = c.args.slice.now } []
    (refl, refl, refl, λ fits. refl) in
    (given.appended, given.given, holds.1, λ fits. search (rules, holds.0, holds.1, holds.3))

pub error_of-requires : goal.error_of-requires
error_of-requires g c = named_stop _ _ c.args.parts.now _ _ _ c.in-Err.ensures.stopped

pub returns-in-Err-clause-value : goal.returns-in-Err-clause-value
returns-in-Err-clause-value g c =
    (states_stop _ _ c.args.parts.now _ _ _ _ c.in-Err.ensures.stopped c.error_of.ensures).value

pub returns-in-Err-clause-missing : goal.returns-in-Err-clause-missing
returns-in-Err-clause-missing g c =
    (states_stop _ _ c.args.parts.now _ _ _ _ c.in-Err.ensures.stopped c.error_of.ensures).missing
