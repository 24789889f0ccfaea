-- The output is that of the format, and the faults are those of the refused text.
use Rattle.subst_expander.proofs.DocumentLemmas.{unread_one}
use Rattle.subst_expander.proofs.document.fill.Goals as goal

pub returns-in-Ok-clause-gives : goal.returns-in-Ok-clause-gives
returns-in-Ok-clause-gives c = λ entries from. rw c.in-Ok.is at (c.in_ok-output.ensures.output entries from)

pub returns-in_ok-one_fault-in-Err-Unread-clause-refused :
    goal.returns-in_ok-one_fault-in-Err-Unread-clause-refused
returns-in_ok-one_fault-in-Err-Unread-clause-refused c = λ entries from.
    let arm = c.in-Err-Unread in
    rw c.in_ok-one_fault-in-Err-Unread.was at (unread_one c.args.format c.args.filler.now.placeholders.now
    entries c.args.text.now arm.cause arm.range c.one_fault.result
    (rw arm.field-0-is at (rw arm.is at c.in_ok-output.ensures.unfilled)) c.one_fault.ensures)

pub returns-in_ok-faults_in-in-Err-Refused-clause-refused :
    goal.returns-in_ok-faults_in-in-Err-Refused-clause-refused
returns-in_ok-faults_in-in-Err-Refused-clause-refused c = λ entries from.
    c.in_ok-faults_in-in-Err-Refused.ensures entries from
