use Rattle.std.proofs.Common.{sym, ◌∙◌}
use Rattle.std.proofs.lemmas.Bool.{false≢true}
use Rattle.std.proofs.lemmas.List.{take_rest}
use Rattle.subst_foreign.proofs.TokenLemmas.{fit_dollar, nameless, other_end_refused, unread_dollar}
use Rattle.subst_foreign.proofs.token.lone_brace_step.Goals as goal

pub returns-then-not-is_whole : goal.returns-then-not-is_whole
returns-then-not-is_whole g c depth =
    unread_dollar _ depth c.args.text.now (sym c.is_whole.ensures ∙ c.if-not-is_whole.true) c.requires.no_head

pub returns-then-not-is_name_of : goal.returns-then-not-is_name_of
returns-then-not-is_name_of g c depth =
    rw (take_rest, c.requires.text)
    (nameless _ depth c.args.name.now c.args.after.now (sym c.if-not-is_whole.ensures) c.requires.run
    c.requires.ended (λ named. false≢true (c.if-not-is_name_of.ensures.1 named)))

pub returns-else-is_other : goal.returns-else-is_other
returns-else-is_other g c depth =
    let (named, shell) = c.is_name_of.ensures.0 c.if-not-is_name_of.false in
    rw (c.requires.text)
    (fit_dollar _ depth c.args.name.now c.args.after.now (sym c.if-not-is_whole.ensures) named shell
    c.requires.ended (λ end. false≢true (sym c.if-is_other.false ∙ c.requires.other_end.1 end))
    (rw c.requires.text at c.requires.no_head))

pub returns-then-is_other : goal.returns-then-is_other
returns-then-is_other g c depth =
    let (named, shell) = c.is_name_of.ensures.0 c.if-not-is_name_of.false in
    rw (c.requires.text)
    (other_end_refused _ depth c.args.name.now c.args.after.now c.form_at.result (sym c.if-not-is_whole.ensures)
    named shell c.requires.ended (c.requires.other_end.0 c.if-is_other.true) c.form_at.ensures)
