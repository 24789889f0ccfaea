-- Each name of a parsed template has a span.
use Rattle.std.proofs.Common.{◌∙◌, None, Some, ap, inl, refl, rules}
use Rattle.std.specs.Option.{option_map}
use Rattle.subst_c.proofs.NamesLemmas.{bytes_after, named_at}
use Rattle.subst_c.specs.StyleTemplate.{plain_name}
use Rattle.subst_c.proofs.style_template.subst_template_variable_by_style.Goals as goal

pub returns-in_default-name_at-clause-parsed : goal.returns-in_default-name_at-clause-parsed
returns-in_default-name_at-clause-parsed c = λ names is.
    let none = named_at c.args.template.now names c.args.cells.now is c.args.number None
    c.in_default-name_at.ensures in
    inl (c.in-Some.forms, c.in-Some.ensures, ((λ below. absurd (none below)), (λ done. cc)))

pub returns-clause-parsed : goal.returns-clause-parsed
returns-clause-parsed c = λ names is.
    let s = c.args.template.now in
    let name = c.in-Some-name_at.name in
    let forms = c.in-Some.forms in
    let at = named_at s names c.args.cells.now is c.args.number (Some name) c.in-Some-name_at.ensures in
    let q = c.question_length-question.ensures.length in
    let after = bytes_after s name c.question_length-question.result (search rules) in
    let told = ap (option_map (plain_name forms)) at ∙ ap (λ x. Some x) (rw q at after) in
    inl (forms, c.in-Some.ensures, ((λ below. refl), (λ done. rw (q, c.use_of-full.ensures) told)))
