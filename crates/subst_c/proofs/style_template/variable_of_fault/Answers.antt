-- The template is parsed, and its variable found.
use Rattle.std.proofs.Common.{◌∙◌, sym}
use Rattle.subst_error.specs.ErrorFault.{parse_fault}
use Rattle.subst_c.proofs.StyleLemmas.{found_within, no_template}
use Rattle.subst_c.proofs.style_template.variable_of_fault.Goals as goal

pub returns-clause-within : goal.returns-clause-within
returns-clause-within g c =
    found_within _ c.args.text.now _ c.args.fault.now.position c.in-Some.name.now c.variable_in_text.result
    (c.one_listing.ensures.within c.args.text.now) c.variable_in_text.ensures.index

pub returns-clause-found : goal.returns-clause-found
returns-clause-found g c = λ is has.
    (rw (c.in-Ok.ensures.ok.1, c.in-Some.ensures.1) at c.variable_in_text.ensures.found) is has.1

pub returns-in-Some-kind-clause-found : goal.returns-in-Some-kind-clause-found
returns-in-Some-kind-clause-found g c = λ is has none.
    no_template _ c.args.style.missing c.args.text.now c.args.template.now (parse_fault c.in-Err.e)
    c.in-Some-kind.field-0 c.in-Err.ensures.err (rw c.from.ensures at (sym c.kind.ensures ∙ c.in-Some-kind.is)) is
