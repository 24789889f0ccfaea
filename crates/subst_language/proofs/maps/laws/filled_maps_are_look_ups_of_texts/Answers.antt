-- The values are identified with their bytes, which are those of the texts.
use Rattle.std.proofs.Common.{sym}
use Rattle.std.proofs.lemmas.Iterator.Adapters.{option_map_id}
use Rattle.subst_language.proofs.maps.laws.filled_maps_are_look_ups_of_texts.Goals as goal

pub returns : goal.returns
returns g c =
    record { no_empty = λ same. ((λ bytes. bytes), same, (λ map name. sym (option_map_id _))) }
