-- The name of a missing variable is UTF-8.
use Rattle.std.proofs.Common.{refl, ◌∙◌}
use Rattle.subst_c.proofs.ErrorsLemmas.{name_found, not_utf8}
use Rattle.subst_c.proofs.error.missing.Goals as goal

pub returns-in_default : goal.returns-in_default
returns-in_default c = rw (not_utf8 c.args.span.now c.in_default.ensures.cases.0) refl

pub returns : goal.returns
returns c =
    name_found c.args.position c.args.span.now _ c.in-Ok.ensures.cases.1
    (c.in_ok-from_str.ensures.ok ∙ c.in-Ok.ensures.cases.0)
