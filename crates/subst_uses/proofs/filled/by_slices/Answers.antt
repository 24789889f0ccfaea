-- The values are read as their bytes.
use Rattle.std.proofs.Common.{refl}
use Rattle.subst_uses.proofs.filled.by_slices.Goals as goal

pub returns : goal.returns
returns c = c.substitute_bytes.ensures.answer (λ v. v.now) (λ v. refl)
