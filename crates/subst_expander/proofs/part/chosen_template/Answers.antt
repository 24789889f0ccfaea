-- The forms of the text are those of its style.
use Rattle.subst_expander.specs.Fill.{grammar_in}
use Rattle.subst_expander.proofs.PartLemmas.{forms_stated}
use Rattle.subst_expander.proofs.part.chosen_template.Goals as goal

pub returns-in_ok-refused_forms-in-Err-Refused-clause-refused :
    goal.returns-in_ok-refused_forms-in-Err-Refused-clause-refused
returns-in_ok-refused_forms-in-Err-Refused-clause-refused c =
    let style = c.style_of-style.ensures in
    forms_stated (grammar_in c.args.chosen.now c.args.variables) c.args.source.now c.in-Err-Refused.field-0-0
    c.in_ok-forms-in-Err-Refused.forms.items _
    (rw (style.forms, style.names) at (c.one_reading.ensures.one_list c.args.source.now))
    (rw (style.forms, style.names, c.in-Err-Refused.field-0-is) at c.in-Err-Refused.ensures.refused)
    (rw (style.forms, style.names) at c.in_ok-forms-in-Err-Refused.ensures.refused)
    c.in_ok-refused_forms-in-Err-Refused.ensures
