use Rattle.std.proofs.Common.{refl}
use Rattle.subst_foreign.proofs.token.form_at.Goals as goal
use Rattle.subst_foreign.specs.declared.forms.Operator.TheVariants as operator

pub colon_form_at-requires-clause-no_default : goal.colon_form_at-requires-clause-no_default
colon_form_at-requires-clause-no_default c x is =
    c.requires.other_end.1 operator.ColonMinus x refl (cc (c.in-Some.ensures.cases.0))

pub colon_form_at-requires-clause-no_message : goal.colon_form_at-requires-clause-no_message
colon_form_at-requires-clause-no_message c x is =
    c.requires.other_end.1 operator.ColonQuestion x refl (cc (c.in-Some.ensures.cases.0))
