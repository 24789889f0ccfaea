-- Either the text is no document or its output isn't confirmed, or the faults are those of its strings.
use Rattle.std.proofs.Common.{◌≡◌, [], inr, rules}
use Rattle.subst_expander.proofs.DocumentLemmas.{unread_one}
use Rattle.subst_expander.proofs.document.faults_in.Goals as goal

pub returns-in-Err-Unread : goal.returns-in-Err-Unread
returns-in-Err-Unread c = λ entries from.
    let arm = c.in-Err-Unread in
    unread_one c.args.format c.args.filler.now.placeholders.now entries
    c.args.text.now arm.cause arm.range c.one_fault.result
    (rw arm.field-0-is at (rw arm.is at c.in_ok-strings.ensures.unfilled))
    (rw arm.field-0-is at c.one_fault.ensures)

pub returns-in-Err-Refused : goal.returns-in-Err-Refused
returns-in-Err-Refused c = λ entries from.
    unread_one c.args.format c.args.filler.now.placeholders.now entries c.args.text.now _ _
    c.one_fault-in-Err-Refused.result tt c.one_fault-in-Err-Refused.ensures

pub returns-then-is_empty : goal.returns-then-is_empty
returns-then-is_empty c = λ entries from.
    unread_one c.args.format c.args.filler.now.placeholders.now entries c.args.text.now _ _
    c.one_fault-then-is_empty.result tt c.one_fault-then-is_empty.ensures

pub returns-else-is_empty : goal.returns-else-is_empty
returns-else-is_empty c = λ entries from.
    let some : ¬ (c.in_ok-faults.faults.items ≡ []) = search rules in inr (
      c.in-Ok.strings.items,
      rw c.in-Ok.is at c.in_ok-strings.ensures.strings,
      c.in_ok-faults.ensures entries from,
      some,
    )
