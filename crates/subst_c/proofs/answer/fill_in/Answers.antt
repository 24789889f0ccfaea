-- The values are the bytes.
use Rattle.std.proofs.Common.{refl}
use Rattle.subst_language.proofs.CallingLemmas.{answer_as_read}
use Rattle.subst_c.proofs.answer.fill_in.Goals as goal

pub returns-clause-answer : goal.returns-clause-answer
returns-clause-answer c = answer_as_read _ _ _ (c.substitute_bytes.ensures.answer (λ v. v) (λ v. refl))
