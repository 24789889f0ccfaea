-- A variable whose value isn't UTF-8 gets a fault.
use Rattle.std.proofs.Common.{◌∙◌}
use Rattle.subst.specs.Calls.Variables.{variable_of}
use Rattle.subst_expander.specs.Faults.{has_unreadable_value}
use Rattle.subst_expander.proofs.ListLemmas.{kept_more, kept_same}
use Rattle.subst_expander.proofs.PartLemmas.{unreadable_same}
use Rattle.subst_expander.proofs.part.unreadable_of.Goals as goal

pub loop-variable-preserved : goal.loop-variable-preserved
loop-variable-preserved c = λ entries are.
    let l = c.loop-variable in
    let name = c.looked_up_name-name in
    let same = unreadable_same c.args.variables.now entries are name.result.now _ c.is_unreadable.ensures.unreadable
    in kept_same variable_of (has_unreadable_value c.args.forms entries) _ l.yielded c.in-Some.variable
    l.faults.items (l.invariant entries are) (rw (← name.ensures) (same ∙ c.if-is_unreadable.false))

pub loop-variable-preserved-in_ok-push : goal.loop-variable-preserved-in_ok-push
loop-variable-preserved-in_ok-push c = λ entries are.
    let l = c.loop-variable in
    let name = c.looked_up_name-name in
    let same = unreadable_same c.args.variables.now entries are name.result.now _ c.is_unreadable.ensures.unreadable
    in rw c.in_ok-push.ensures.items (kept_more variable_of (has_unreadable_value c.args.forms entries) _ l.yielded
    c.in-Some.variable l.faults.items (l.invariant entries are) c.in_ok-unreadable.field-0
    (rw (← name.ensures) (same ∙ c.if-is_unreadable.true))
    (rw (← name.ensures) c.in_ok-unreadable.ensures))
