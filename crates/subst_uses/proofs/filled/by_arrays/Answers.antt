-- The values are the bytes.
use Rattle.std.proofs.Common.{refl}
use Rattle.subst.proofs.Calling.{answer_as_read}
use Rattle.subst_uses.proofs.filled.by_arrays.Goals as goal

pub returns : goal.returns
returns g c = answer_as_read _ _ _ (c.substitute_bytes.ensures.answer (λ v. v) (λ v. refl))
