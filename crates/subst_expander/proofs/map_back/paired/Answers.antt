-- The next pair is inserted into the map.
use Rattle.std.proofs.Common.{◌==◌, ◌∷◌, ◌∙◌, [], ap, map, subst, sym}
use Rattle.std.proofs.lemmas.List.{map-append}
use Rattle.std.specs.Option.{option_map}
use Rattle.subst.specs.Reading.{variable_of}
use Rattle.subst_expander.specs.MapBack.{last_at, ArePaired}
use Rattle.subst_expander.proofs.ListLemmas.{zip_yielded}
use Rattle.subst_expander.proofs.MapBackLemmas.{last_at-push, counterpart_put}
use Rattle.subst_expander.proofs.map_back.paired.Goals as goal

pub loop-variable-preserved : goal.loop-variable-preserved
loop-variable-preserved c = λ at.
    let l = c.loop-variable in
    let variable = c.in-Some.variable in
    let counterpart = c.in-Some.counterpart in
    ap (option_map variable_of) (c.in_ok-insert.ensures.updates.0 at)
    ∙ counterpart_put (variable.position == at) _ counterpart _ (l.invariant at)
    ∙ sym (last_at-push (map (λ pair. (pair.0.position, variable_of pair.1)) l.yielded)
    (variable.position, variable_of counterpart) at)
    ∙ ap (λ pairs. last_at pairs at)
    (sym (map-append (λ pair. (pair.0.position, variable_of pair.1)) l.yielded ((variable, counterpart) ∷ [])))

pub returns : goal.returns
returns c =
    let l = c.loop-variable in
    let second = c.zip-variable-items.ensures.second in
    let all = zip_yielded c.args.template c.args.text c.into_iter-variable-iterator.result l.variable-iterator
    c.next.new.self l.yielded c.next.result (cc c.into_iter-variable-iterator.ensures.into_iter_gives)
    (cc c.into_iter-variable-iterator.ensures.into_iter_gives) (cc second.0) (cc second.1) l.yielded_by
    c.next.ensures.steps c.in-None.is in
    subst (λ pairs. ArePaired pairs l.counterparts) all l.invariant
