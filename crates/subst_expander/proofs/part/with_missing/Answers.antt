-- A missing variable gets a fault unless its value isn't UTF-8.
use Rattle.std.proofs.Common.{◌≡◌, ◌∷◌, [], ◌++◌, ◌∙◌, ap, append-nil, append_assoc, map, not, rules, subst, sym, true, false}
use Rattle.subst.specs.Calls.Variables.{missing_variable}
use Rattle.subst_expander.specs.Faults.{has_unreadable_value, AreMissing, IsMissingAt}
use Rattle.subst_expander.specs.Fill.{looked_up_name}
use Rattle.subst_expander.specs.Layers.{is_unreadable}
use Rattle.subst_expander.proofs.ListLemmas.{kept_more, kept_same, vec_yielded}
use Rattle.subst_expander.proofs.PartLemmas.{unreadable_same}
use Rattle.subst_expander.proofs.part.with_missing.Goals as goal

pub loop-e-init : goal.loop-e-init
loop-e-init c = λ entries are. ([], tt, sym (append-nil c.args.faults.items))

pub loop-e-preserved : goal.loop-e-preserved
loop-e-preserved c = λ entries are.
    let l = c.loop-e in
    let (missing, are_missing, added) = l.invariant entries are in
    let same = unreadable_same c.args.variables.now entries are c.looked_up_name.result.now _
    c.is_unreadable.ensures.unreadable in
    let known : c.is_unreadable.result ≡ true = search rules in
    let is = subst (λ name. is_unreadable entries name ≡ true)
    (c.looked_up_name.ensures ∙ ap (looked_up_name c.args.forms) c.deref.ensures)
    (same ∙ known) in (
      missing,
      kept_same missing_variable (λ v. not (has_unreadable_value c.args.forms entries v)) IsMissingAt l.yielded
          c.in-Some.e missing are_missing (ap not is),
      added,
    )

pub loop-e-preserved-in-Continue-1 : goal.loop-e-preserved-in-Continue-1
loop-e-preserved-in-Continue-1 c = λ entries are.
    let l = c.loop-e in
    let (missing, are_missing, added) = l.invariant entries are in
    let fault = c.missing.result in
    let same = unreadable_same c.args.variables.now entries are c.looked_up_name.result.now _
    c.is_unreadable.ensures.unreadable in
    let known : c.is_unreadable.result ≡ false = search rules in
    let is = subst (λ name. is_unreadable entries name ≡ false)
    (c.looked_up_name.ensures ∙ ap (looked_up_name c.args.forms) c.deref.ensures)
    (same ∙ known) in (
      missing ++ fault ∷ [],
      kept_more missing_variable (λ v. not (has_unreadable_value c.args.forms entries v)) IsMissingAt l.yielded
          c.in-Some.e missing are_missing fault (ap not is) c.missing.ensures,
      c.in_ok-push.ensures.items ∙ ap (λ faults. faults ++ fault ∷ []) added
          ∙ append_assoc c.args.faults.items missing (fault ∷ []),
    )

pub returns : goal.returns
returns c = λ entries are.
    let l = c.loop-e in
    let (missing, are_missing, added) = l.invariant entries are in
    let gives = c.into_iter-e-iterator.ensures.into_iter_gives in
    let all = vec_yielded c.args.list c.into_iter-e-iterator.result l.e-iterator c.next.new.self l.yielded
    c.next.result gives.0 gives.1 l.yielded_by c.next.ensures.steps c.in-None.is in (
      missing,
      subst (λ list. AreMissing c.args.forms entries (map missing_variable list) missing) all are_missing,
      rw added at c.sort_unstable_by_key.ensures.permutation,
    )
