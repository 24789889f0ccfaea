-- Each turn appends the use of the next variable.
use Rattle.std.proofs.Common.{[], ◌∷◌, ◌++◌, ◌∙◌, ap, ap₂, map, sym}
use Rattle.std.proofs.lemmas.List.{map-append}
use Rattle.subst.specs.Calls.Variables.{variable_of}
use Rattle.subst_expander.specs.Listing.{listed}
use Rattle.subst_expander.proofs.ListLemmas.{vec_yielded}
use Rattle.subst_expander.proofs.part.uses_of.Goals as goal

pub loop-variable-preserved : goal.loop-variable-preserved
loop-variable-preserved c =
    let l = c.loop-variable in
    let it = c.in_ok-use_of.field-0 in
    let v = c.in-Some.variable in
    ap (map listed) c.in_ok-push.ensures.items ∙ map-append listed l.uses.items (it ∷ [])
    ∙ ap₂ (λ xs x. xs ++ x ∷ []) l.invariant c.in_ok-use_of.ensures
    ∙ sym (map-append variable_of l.yielded (v ∷ []))

pub returns : goal.returns
returns c =
    let l = c.loop-variable in
    let gives = c.into_iter-variable-iterator.ensures.into_iter_gives in
    l.invariant ∙ ap (map variable_of) (vec_yielded c.args.variables c.into_iter-variable-iterator.result
    l.variable-iterator c.next.new.self l.yielded c.next.result gives.0 gives.1 l.yielded_by c.next.ensures.steps
    c.in-None.is)
