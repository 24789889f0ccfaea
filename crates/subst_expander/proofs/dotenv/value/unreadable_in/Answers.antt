-- A variable whose value isn't UTF-8 is among all of them.
use Rattle.std.proofs.Common.{◌≡◌, ◌∷◌, ◌++◌, [], List, map, sym, subst, ◌∙◌}
use Rattle.std.proofs.lemmas.List.{map-append}
use Rattle.std.proofs.lemmas.List.Elements.{All-push, Contains-append_left, Contains-push}
use Rattle.std.specs.List.{Contains}
use Rattle.std.specs.Vec.Iter.{into_iter_items}
use Rattle.subst.specs.Reading.{variable_of}
use Rattle.subst_expander.specs.Layers.{IsUnreadable}
use Rattle.subst_expander.proofs.DotenvLemmas.{one_more_done}
use Rattle.subst_expander.proofs.PartLemmas.{unreadable_same, readable_name}
use Rattle.subst_expander.proofs.dotenv.value.unreadable_in.Goals as goal
use Rattle.subst_foreign.specs.declared.variables.TextVariable.{TextVariable}

-- the last one that is done is among all
contains_done : (list done rest : List TextVariable) (v : TextVariable)
    → list ≡ (done ++ v ∷ []) ++ rest → Contains (map variable_of list) (variable_of v)
contains_done list done rest v all =
    rw (all, map-append variable_of (done ++ v ∷ []) rest, map-append variable_of done (v ∷ []))
    (Contains-append_left _ (map variable_of rest) _ (Contains-push (map variable_of done) _))

pub loop-variable-preserved : goal.loop-variable-preserved
loop-variable-preserved c =
    let l = c.loop-variable in
    let v = c.in-Some.variable in
    record {
      all = one_more_done _ l.yielded (into_iter_items l.variable-iterator) (into_iter_items c.next.new.self) v
          l.invariant.all c.in-Some.ensures.steps.0;
      readable = λ above are. All-push (λ it. ¬ (IsUnreadable above it.name.now)) l.yielded v
          (l.invariant.readable above are)
          (subst (λ n. ¬ (IsUnreadable above n)) c.in-Ok.ensures.cases.0
          (readable_name c.args.above.now above are c.in-Ok.name.now
          (sym c.is_unreadable.ensures.unreadable ∙ c.if-is_unreadable.false)));
    }

pub returns-then-is_unreadable : goal.returns-then-is_unreadable
returns-then-is_unreadable c =
    let l = c.loop-variable in
    let v = c.in-Some.variable in
    let all = one_more_done _ l.yielded (into_iter_items l.variable-iterator) (into_iter_items c.next.new.self) v
    l.invariant.all c.in-Some.ensures.steps.0 in
    record {
      none = λ above are same. absurd cc;
      one = λ above are. (
        variable_of v,
        contains_done _ l.yielded _ v all,
        sym c.in-Ok.ensures.cases.0,
        unreadable_same c.args.above.now above are c.in-Ok.name.now _ c.is_unreadable.ensures.unreadable
            ∙ c.if-is_unreadable.true,
      );
    }
