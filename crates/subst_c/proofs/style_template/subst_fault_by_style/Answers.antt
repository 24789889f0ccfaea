-- The choices of a style are unique, so the template is that of these choices.
use Rattle.std.proofs.Common.{subst}
use Rattle.subst_foreign.specs.Template.{IsTemplate}
use Rattle.subst_c.proofs.StyleLemmas.{choices_unique}
use Rattle.subst_c.specs.Style.{grammar_of}
use Rattle.subst_c.specs.declared.style.Choices.{Choices}
use Rattle.subst_c.proofs.style_template.subst_fault_by_style.Goals as goal

pub returns-in-Ok-None-clause-not_a_template : goal.returns-in-Ok-None-clause-not_a_template
returns-in-Ok-None-clause-not_a_template c = λ told (choices, are, is, texts) has.
    let only = c.args.style.now.only.now in
    let same = choices_unique c.args.style.now choices c.in-Some.choices are c.in-Some.ensures in
    let of_style = subst (λ (x : Choices). IsTemplate (grammar_of x only only) x.missing c.args.source.now
    c.args.template.now) same is
    in
    let names = c.names_of-names.ensures in
    (rw (names.choice, names.only, names.given) at c.in-Ok-None.ensures.found) of_style has c.in-Ok-None.field-0-is
