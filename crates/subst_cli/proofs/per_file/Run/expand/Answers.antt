-- The output of a source, or its refusal.
use Rattle.std.proofs.Common.{inl, rules}
use Rattle.subst_cli.specs.Written.{Gives, Refuses}
use Rattle.subst_cli.proofs.per_file.Run.expand.Goals as goal

pub returns-in-Ok-Ok-clause-output : goal.returns-in-Ok-Ok-clause-output
unfolding Gives
returns-in-Ok-Ok-clause-output c = λ entries are.
    (rw c.in-Ok-Ok.field-0-is at (c.in-Ok-Ok.ensures.gives entries are), search rules)

pub returns-in-Ok-Err-clause-none : goal.returns-in-Ok-Err-clause-none
unfolding Refuses
returns-in-Ok-Err-clause-none c = λ entries are.
    let faults = rw c.in-Ok-Err.field-0-is at (c.in-Ok-Err.ensures.refused entries are) in
    inl ((c.in-Ok-Err.faults.items, faults), rw c.in-Ok-Err.ensures.status at c.report_refused.ensures)
