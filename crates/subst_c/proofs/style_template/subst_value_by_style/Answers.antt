-- Each name of a parsed template has a span.
use Rattle.std.proofs.Common.{None, Some, inl, refl}
use Rattle.subst_language.specs.Parts.Span.{span_bytes}
use Rattle.subst_c.proofs.NamesLemmas.{named_at}
use Rattle.subst_c.proofs.style_template.subst_value_by_style.Goals as goal

pub returns-in_default-name_at-clause-parsed : goal.returns-in_default-name_at-clause-parsed
returns-in_default-name_at-clause-parsed c = λ names is.
    let none = named_at c.args.template.now names c.args.cells.now is c.args.number None
    c.in_default-name_at.ensures in
    inl (c.in-Some.forms, c.in-Some.ensures, ((λ below. absurd (none below)), (λ done. cc)))

pub returns-clause-parsed : goal.returns-clause-parsed
returns-clause-parsed c = λ names is.
    let name = c.in-Some-name_at.name in
    let at = named_at c.args.template.now names c.args.cells.now is c.args.number (Some name)
    c.in-Some-name_at.ensures in
    inl (
      c.in-Some.forms,
      c.in-Some.ensures,
      ((λ below. refl), (λ done. (span_bytes name c.args.template.now, at, c.see.ensures))),
    )
