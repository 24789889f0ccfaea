-- At each step of the walk: the changes so far, with that of the next string, item or member.
use Rattle.std.proofs.Common.{◌≡◌, ◌+◌, [], ◌∷◌, ◌++◌, take, drop, sym, ap, ◌∙◌, subst, append_assoc, append-nil, arith}
use Rattle.std.proofs.lemmas.List.{take_all, take_more, drop_more, take-append-drop, length-append, length-take-le}
use Rattle.std.proofs.lemmas.Option.{IfSome_then}
use Rattle.std.proofs.lemmas.Result.{err_from_is_err_and, IfErr-weaker}
use Rattle.std.specs.Map.{values_of}
use Rattle.serde_json.specs.Data.{string}
use Rattle.serde_json.specs.View.{view, items_view}
use Rattle.subst_error.specs.ErrorFault.{error_fault}
use Rattle.subst_language.specs.Calls.Outcome.{OnFault}
use Rattle.subst_language.specs.Language.Several.{GivesBy, RefusesFirst}
use Rattle.subst_language.proofs.Language.SeveralLemmas.{refusal_alone}
use Rattle.subst_document.specs.Changes.{one, inside, found_so_far, AreMade}
use Rattle.subst_document.proofs.ChangeLemmas.{found_more, made_up_to_kept}
use Rattle.subst_json.specs.Changed.{with_items}
use Rattle.subst_json.specs.Mapped.{strings, IsEach}
use Rattle.subst_json.proofs.ChangedLemmas.{GivesEach, changed-one, items_each, members_each}
use Rattle.subst_json.proofs.JsonTreeLemmas.{view-String, array_refused, object_refused}
use Rattle.subst_json.proofs.changes.+find.Goals as goal

pub change_of-returns-in-String-clause-err : goal.change_of-returns-in-String-clause-err
change_of-returns-in-String-clause-err g t c =
    let ask = g.F.Fill.answers c.args.filler.now in
    let seen : view c.args.value.now ≡ string c.as_str.result.now =
    ap view c.in-String.is ∙ view-String c.in-String.text ∙ ap string (sym c.as_str.ensures.value) in
    subst (λ d. OnFault error_fault c.change_of_text.result (RefusesFirst ask (strings d))) (sym seen)
    (IfErr-weaker c.change_of_text.result _ _ (λ e h. IfSome_then (error_fault e) h
    (refusal_alone ask c.as_str.result.now)) c.change_of_text.ensures.err)

pub change_of_items-returns-in_err-change_of-clause-err : goal.change_of_items-returns-in_err-change_of-clause-err
change_of_items-returns-in_err-change_of-clause-err g t c =
    let ask = g.F.Fill.answers c.args.filler.now in
    let l = c.loop-item in
    let vs = c.deref-item-items.result.now in
    let v = c.item-item.result in
    let done = take l.item-index vs in
    let left = drop (l.item-index + 1) vs in
    let failed = c.in_err-change_of in
    let all : c.args.items.now.items ≡ done ++ v ∷ left =
    sym c.deref-item-items.ensures.value ∙ sym (take-append-drop l.item-index vs)
    ∙ ap (λ rest. done ++ rest) (drop_more vs l.item-index v (omega arith)
    ∙ ap (λ x. x ∷ left) (sym c.item-item.is)) in
    let given = err_from_is_err_and c.from_residual.result c.from_residual.ensures.1 in
    rw (given.1, given.2) (array_refused ask c.args.items.now.items done left v
    (with_items (items_view done) (found_so_far l.found)) (error_fault failed.field-0.0) all
    (items_each (GivesBy ask) done (found_so_far l.found) l.invariant.1) failed.ensures.err)

pub change_of_items-loop-item-preserved : goal.change_of_items-loop-item-preserved
change_of_items-loop-item-preserved g t c =
    let Becomes = GivesBy (g.F.Fill.answers c.args.filler.now) in
    let l = c.loop-item in
    let vs = c.deref-item-items.result.now in
    let v = c.item-item.result in
    let done = take l.item-index vs in
    let found = found_so_far l.found in
    let change = c.in_ok-change_of.field-0 in
    let cut : take (l.item-index + 1) vs ≡ done ++ v ∷ [] =
    take_more vs l.item-index v (omega arith) ∙ ap (λ x. done ++ x ∷ []) (sym c.item-item.is) in
    let was = length-take-le l.item-index vs (omega arith) in
    let more = found_more (GivesEach Becomes) done found (found_so_far c.add.new.self) v (one change)
    c.in_ok-add.ensures.found (l.invariant.0 ∙ sym was) l.invariant.1
    (subst (IsEach Becomes (view v)) (sym (changed-one (view v) change)) c.in_ok-change_of.ensures.ok) in (
      more.0 ∙ length-append done (v ∷ []) ∙ ap (λ n. n + 1) was,
      subst (λ xs. AreMade (GivesEach Becomes) xs (found_so_far c.add.new.self) xs) (sym cut) more.1,
    )

pub change_of_items-returns-clause-ok : goal.change_of_items-returns-clause-ok
change_of_items-returns-clause-ok g t c =
    let Becomes = GivesBy (g.F.Fill.answers c.args.filler.now) in
    let l = c.loop-item in
    let items = c.args.items.now.items in
    let changes = inside c.into_change.result in
    let kept = c.into_change.ensures.kept in
    let all : take l.item-index c.deref-item-items.result.now ≡ items =
    take_all l.item-index c.deref-item-items.result.now (omega arith) ∙ c.deref-item-items.ensures.value in
    items_each Becomes items changes (made_up_to_kept (GivesEach Becomes) items changes kept.0 items
    (subst (λ cs. AreMade (GivesEach Becomes) items cs items) kept.1
    (subst (λ xs. AreMade (GivesEach Becomes) xs (found_so_far l.found) xs) all l.invariant.1)))

pub change_of_members-returns-in_err-change_of-clause-err : goal.change_of_members-returns-in_err-change_of-clause-err
change_of_members-returns-in_err-change_of-clause-err g t c =
    let ask = g.F.Fill.answers c.args.filler.now in
    let l = c.loop-member in
    let done = l.invariant.0 in
    let v = c.in-Some.member.now in
    let left = c.next.new.self in
    let failed = c.in_err-change_of in
    let all : values_of c.args.members.now.entries ≡ done ++ v ∷ left =
    l.invariant.1 ∙ ap (λ vs. done ++ vs) c.in-Some.ensures.steps in
    let given = err_from_is_err_and c.from_residual.result c.from_residual.ensures.1 in
    rw (given.1, given.2) (object_refused ask c.args.members.now.entries done left v
    (with_items (items_view done) (found_so_far l.found)) (error_fault failed.field-0.0) all
    (items_each (GivesBy ask) done (found_so_far l.found) l.invariant.3) failed.ensures.err)

pub change_of_members-loop-member-preserved : goal.change_of_members-loop-member-preserved
change_of_members-loop-member-preserved g t c =
    let Becomes = GivesBy (g.F.Fill.answers c.args.filler.now) in
    let l = c.loop-member in
    let done = l.invariant.0 in
    let v = c.in-Some.member.now in
    let left = c.next.new.self in
    let found = found_so_far l.found in
    let change = c.in_ok-change_of.field-0 in
    let more = found_more (GivesEach Becomes) done found (found_so_far c.add.new.self) v (one change)
    c.in_ok-add.ensures.found l.invariant.2 l.invariant.3
    (subst (IsEach Becomes (view v)) (sym (changed-one (view v) change)) c.in_ok-change_of.ensures.ok) in (
      done ++ v ∷ [],
      l.invariant.1 ∙ ap (λ vs. done ++ vs) c.in-Some.ensures.steps ∙ sym (append_assoc done (v ∷ []) left),
      more.0,
      more.1,
    )

pub change_of_members-returns-clause-ok : goal.change_of_members-returns-clause-ok
change_of_members-returns-clause-ok g t c =
    let Becomes = GivesBy (g.F.Fill.answers c.args.filler.now) in
    let l = c.loop-member in
    let done = l.invariant.0 in
    let es = c.args.members.now.entries in
    let changes = inside c.into_change.result in
    let kept = c.into_change.ensures.kept in
    let all : values_of es ≡ done =
    l.invariant.1 ∙ ap (λ vs. done ++ vs) c.in-None.ensures.steps.0 ∙ append-nil done in
    members_each Becomes es changes (made_up_to_kept (GivesEach Becomes) (values_of es) changes kept.0
    (values_of es) (subst (λ cs. AreMade (GivesEach Becomes) (values_of es) cs (values_of es)) kept.1
    (subst (λ xs. AreMade (GivesEach Becomes) xs (found_so_far l.found) xs) (sym all) l.invariant.3)))
