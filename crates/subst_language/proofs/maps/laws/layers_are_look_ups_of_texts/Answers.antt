-- Layers are read as the maps are.
use Rattle.subst_language.specs.LayeredLemmas.{layers_are_read_as}
use Rattle.subst_language.proofs.maps.laws.layers_are_look_ups_of_texts.Goals as goal

pub returns : goal.returns
returns g c =
    let m = g.M.VariableMap in let n = g.N.VariableMap in
    record {
      layered = λ look other. layers_are_read_as g.M.Value.AsStr.text g.N.Value.AsStr.text
          m.see n.see m.look_up n.look_up look other (λ map. map.first.now) (λ map. map.second.now);
    }
