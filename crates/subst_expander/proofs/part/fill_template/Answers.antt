-- The output is that of the template, and the faults are those of the refusal and of values that aren't
-- UTF-8.
use Rattle.std.proofs.Common.{◌≡◌, ◌∙◌, [], rules, sym}
use Rattle.subst.specs.Calls.Variables.{missing_variable}
use Rattle.subst_expander.proofs.PartLemmas.{fault_of_refusal, faults_of_missing, faults_of_output, none_counted, output_under, readable_without_faults}
use Rattle.subst_expander.proofs.part.fill_template.Goals as goal

pub returns-in-Ok-clause-gives : goal.returns-in-Ok-clause-gives
returns-in-Ok-clause-gives c = λ entries are.
    output_under c.args.variables.now entries are c.args.forms c.args.template.now _
    (readable_without_faults c.args.forms entries c.args.template.now _ (c.in_ok-unreadable.ensures entries are)
    (none_counted _ _ c.in_ok-unreadable.unreadable.ok.0 (sym c.is_empty.ensures ∙ c.if-is_empty.true)))
    (rw (c.in-Ok.is, c.of.ensures) at c.in_ok-filled.ensures.gives)

pub returns-in-Ok-2-clause-refused : goal.returns-in-Ok-2-clause-refused
returns-in-Ok-2-clause-refused c = λ entries are.
    let some : ¬ (c.in_ok-unreadable.unreadable.items ≡ []) = search rules in (
      some,
      faults_of_output c.args.forms entries c.args.template.now _ c.in_ok-unreadable.unreadable.items
          (rw (c.in-Ok-2.is, c.of.ensures, are.values) at c.in_ok-filled.ensures.gives)
          (c.in_ok-unreadable.ensures entries are),
    )

pub returns-in_ok-one_fault-in-Err-NotATemplate-clause-refused :
    goal.returns-in_ok-one_fault-in-Err-NotATemplate-clause-refused
returns-in_ok-one_fault-in-Err-NotATemplate-clause-refused c = λ entries are.
    let arm = c.in-Err-NotATemplate in
    fault_of_refusal c.args.forms entries c.args.template.now arm.range arm.e _
    (rw (arm.is, arm.field-0-is) at c.in_ok-filled.ensures.refuses)
    c.in_ok-one_fault-in-Err-NotATemplate.ensures

pub returns-in_ok-with_missing-in-Err-Missing-clause-refused :
    goal.returns-in_ok-with_missing-in-Err-Missing-clause-refused
returns-in_ok-with_missing-in-Err-Missing-clause-refused c = λ entries are.
    let arm = c.in-Err-Missing in
    faults_of_missing c.args.forms entries c.args.template.now missing_variable arm.missing.items
    c.in_ok-unreadable.unreadable.items _
    (rw (arm.is, arm.field-0-is, c.of.ensures, are.values) at c.in_ok-filled.ensures.refuses)
    (c.in_ok-unreadable.ensures entries are)
    (c.in_ok-with_missing-in-Err-Missing.ensures entries are)
