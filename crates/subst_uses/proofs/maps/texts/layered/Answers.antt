-- The values of each map are read by their own type.
use Rattle.std.proofs.Common.{IfSome, option_map, refl, string_bytes, sym}
use Rattle.std.proofs.lemmas.Iterator.Adapters.{option_map_id}
use Rattle.std.specs.BTreeMap.{get_by_text}
use Rattle.subst.specs.Language.Answer.{Answers}
use Rattle.subst.specs.Calls.Maps.{first_value}
use Rattle.subst.specs.Calls.Outcome.{answer_of}
use Rattle.subst.proofs.Calling.{by_look_up_bytes}
use Rattle.subst_uses.proofs.maps.texts.layered.Goals as goal

pub returns : goal.returns
returns g c =
    let text = g.V.AsStr.text in
    let stated = answer_of (λ output. string_bytes output) c.substitute.result in
    let reads = c.layers_are_look_ups_of_texts.ensures.layered
    first_value (λ map name. option_map text (get_by_text map name))
    ((λ bytes. bytes), (λ v. refl), (λ map name. sym (option_map_id _)))
    (text, (λ v. refl), (λ map name. refl)) in
    by_look_up_bytes _ _ _ _ (record { first = c.args.pairs; second = c.args.defaults })
    (λ look. IfSome stated (Answers c.args.source.now look)) reads c.substitute.ensures.answer
