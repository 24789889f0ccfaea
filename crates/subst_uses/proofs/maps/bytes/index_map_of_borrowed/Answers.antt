-- The values are read as their bytes, by their type.
use Rattle.std.proofs.Common.{refl}
use Rattle.subst_uses.proofs.maps.bytes.index_map_of_borrowed.Goals as goal

pub returns : goal.returns
returns g c = c.substitute_bytes.ensures.answer g.V.AsSlice.items (λ v. refl)
