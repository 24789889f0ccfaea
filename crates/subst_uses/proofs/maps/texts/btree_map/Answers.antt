-- The values are read as their texts, by their type.
use Rattle.std.proofs.Common.{refl}
use Rattle.subst_uses.proofs.maps.texts.btree_map.Goals as goal

pub returns : goal.returns
returns g c = c.substitute.ensures.answer g.V.AsStr.text (λ v. refl)
