-- An error that owns its name states the same refusal.
use Rattle.subst_template.proofs.SubstituteLemmas.{owned_refuses}
use Rattle.subst_template.proofs.one_pass.substitute.Goals as goal

pub returns-in-Err-clause-answer : goal.returns-in-Err-clause-answer
returns-in-Err-clause-answer g c bytes reads =
    owned_refuses _ _ _ _ c.into_owned.ensures.fault (c.in-Err.ensures.answer bytes reads)

pub returns-in-Err-clause-refusal : goal.returns-in-Err-clause-refusal
returns-in-Err-clause-refusal g c look names =
    owned_refuses _ _ _ _ c.into_owned.ensures.fault (c.in-Err.ensures.refusal look names)
