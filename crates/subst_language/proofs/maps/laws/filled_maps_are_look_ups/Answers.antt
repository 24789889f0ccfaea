-- The values are identified with their bytes.
use Rattle.std.proofs.Common.{refl, sym}
use Rattle.std.proofs.lemmas.Iterator.Adapters.{option_map_id}
use Rattle.subst_language.proofs.maps.laws.filled_maps_are_look_ups.Goals as goal

pub returns : goal.returns
returns g c = record { no_empty = ((λ bytes. bytes), (λ v. refl), (λ map name. sym (option_map_id _))) }
