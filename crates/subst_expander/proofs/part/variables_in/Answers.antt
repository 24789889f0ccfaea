-- Each turn converts the next variable.
use Rattle.std.proofs.Common.{suc, [], ◌∷◌, ◌++◌, ◌∙◌, ap, ap₂, map, subst, sym, arith}
use Rattle.std.proofs.lemmas.List.{map-append}
use Rattle.std.specs.List.{All}
use Rattle.subst.specs.Calls.Variables.{variable_of}
use Rattle.subst.specs.Reading.{variable_of as found_variable}
use Rattle.subst_foreign.specs.declared.variables.TextVariable.{TextVariable}
use Rattle.subst_language.specs.Language.Name.{IsName}
use Rattle.subst_expander.specs.Listing.{variable_in}
use Rattle.subst_expander.proofs.ListLemmas.{vec_yielded}
use Rattle.subst_expander.proofs.part.variables_in.Goals as goal

pub loop-it-init : goal.loop-it-init
loop-it-init c named =
    let gives = c.into_iter-it-iterator.ensures.into_iter_gives in
    record {
      named = subst (All (λ (x : TextVariable). IsName x.name.now)) (sym gives.0) named;
      converted = ap (map variable_of) c.in_ok-variables.ensures.items;
    }

pub loop-it-preserved : goal.loop-it-preserved
loop-it-preserved c named =
    let l = c.loop-it in
    let before = l.invariant named in
    let v = c.in-Some.it in
    let converted = λ (x : TextVariable). variable_in c.args.missing c.args.source.now (found_variable x) in
    let names = subst (All (λ x. IsName x.name.now)) c.in-Some.ensures.steps.0 before.named in
    record {
      named = λ k d below. names (suc k) d (omega arith);
      converted = ap (map variable_of) c.in_ok-push.ensures.items
          ∙ map-append variable_of l.variables.items (c.variable_in.result ∷ [])
          ∙ ap₂ (λ xs x. xs ++ x ∷ []) before.converted (c.variable_in.ensures (names 0 v (omega arith)))
          ∙ sym (map-append converted l.yielded (v ∷ []));
    }

pub returns : goal.returns
returns c named =
    let l = c.loop-it in
    let gives = c.into_iter-it-iterator.ensures.into_iter_gives in
    let converted = λ (x : TextVariable). variable_in c.args.missing c.args.source.now (found_variable x) in
    (l.invariant named).converted ∙ ap (map converted) (vec_yielded c.args.found c.into_iter-it-iterator.result
    l.it-iterator c.next.new.self l.yielded c.next.result gives.0 gives.1 l.yielded_by c.next.ensures.steps
    c.in-None.is)
