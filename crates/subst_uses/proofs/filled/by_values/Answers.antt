-- The values are read as their bytes, by their type.
use Rattle.std.proofs.Common.{refl}
use Rattle.subst_uses.proofs.filled.by_values.Goals as goal

pub returns : goal.returns
returns g c = c.substitute_bytes.ensures.answer g.V.AsSlice.items (λ v. refl)
