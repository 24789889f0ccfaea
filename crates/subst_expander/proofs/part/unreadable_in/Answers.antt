-- The variables are those of the template, and a source that is no template has no tree.
use Rattle.std.proofs.Common.{subst}
use Rattle.std.proofs.lemmas.Result.{IfOk-weaker}
use Rattle.subst.specs.ErrorFault.{parse_fault}
use Rattle.subst.specs.Language.Variables.{variables_of}
use Rattle.subst_expander.specs.Faults.{AreUnreadable}
use Rattle.subst_expander.proofs.PartLemmas.{no_tree, none_unreadable}
use Rattle.subst_expander.proofs.part.unreadable_in.Goals as goal

pub returns-then-are_readable : goal.returns-then-are_readable
returns-then-are_readable c = λ entries are t spells.
    rw c.new.ensures.items (none_unreadable c.args.variables.now entries are
    (c.are_readable.ensures.readable c.if-are_readable.true) c.args.forms (variables_of 0 t))

pub returns-in-Err : goal.returns-in-Err
returns-in-Err c = λ entries are.
    IfOk-weaker c.no_faults.result _ _ (λ faults some t spells.
    absurd (no_tree c.args.template.now (parse_fault c.in-Err.e) c.in-Err.ensures.err some t spells))
    c.no_faults.ensures.wrong

pub returns : goal.returns
returns c = λ entries are.
    let named = rw c.in-Ok.ensures.ok.1 at c.in_ok-variables.ensures.variables in
    IfOk-weaker c.unreadable_of.result _ _ (λ faults each t spells.
    subst (λ list. AreUnreadable c.args.forms entries list faults.items) (named t spells) each)
    (c.unreadable_of.ensures entries are)
