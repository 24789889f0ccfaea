use Rattle.std.proofs.Common.{sym, ◌∙◌}
use Rattle.subst_foreign.proofs.TokenLemmas.{message_refused}
use Rattle.subst_foreign.proofs.token.operated_step.Goals as goal

pub returns-in-Err : goal.returns-in-Err
returns-in-Err g c depth =
    rw (c.rest_of_message.ensures)
    (message_refused _ depth c.in-Err.form c.args.name.now c.args.after.now c.args.rest.now c.args.operator
    (sym c.takes_message.ensures.takes ∙ c.if-not-takes_message.false) c.requires.head c.requires.after
    c.in-Err.ensures.err)
