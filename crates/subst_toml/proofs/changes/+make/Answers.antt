-- At each step of the walk: a change nests less deep than the one around it, and is applied to a value.
use Rattle.std.proofs.Common.{◌≡◌, ◌≤◌, ◌+◌, ◌*◌, ◌<◌, [], ◌++◌, length, take, drop, set, append-nil, sym, ap, ◌∙◌, subst, rules, arith}
use Rattle.std.proofs.Math.ListN.{drop_of_length-le}
use Rattle.std.proofs.lemmas.List.{take_all}
use Rattle.toml.specs.View.{view, items_view, members_view}
use Rattle.toml.specs.declared.value.Value.{the_lemmas}
use Rattle.subst_document.specs.Changes.{slots, remaining_of, next_of, rest_of, AreMade}
use Rattle.subst_document.proofs.ChangeLemmas.{changes_depth, depth-slots, depth-rest, made_at, made_by_retain, callable}
use Rattle.subst_toml.specs.Changed.{changed, with_members}
use Rattle.subst_toml.proofs.ChangedLemmas.{IsMade, changed-Kept, table_made, items_made, members_made}
use Rattle.subst_toml.proofs.changes.+make.Goals as goal

pub make-returns-in-Kept : goal.make-returns-in-Kept
make-returns-in-Kept t c =
    sym (ap (changed (view c.args.value.now)) c.in-Kept.is ∙ changed-Kept (view c.args.value.now)
    c.in-Kept.field-0)

pub make-returns-in-Table : goal.make-returns-in-Table
make-returns-in-Table t c = rw c.in-Table.is (search (rules, the_lemmas, table_made))

pub make_items-loop-item-init : goal.make_items-loop-item-init
make_items-loop-item-init t c =
    let is = c.new-left.ensures in (
      subst (λ cs. changes_depth cs ≤ changes_depth c.args.changes.items) (sym is)
          (depth-slots c.args.changes.items),
      λ ws h. subst (λ cs. AreMade IsMade c.args.items.now.items cs ws) is
          (subst (λ vs. AreMade IsMade vs (remaining_of c.new-left.result) ws)
          c.deref_mut-item-items.ensures.value h),
    )

pub make_items-loop-item-preserved : goal.make_items-loop-item-preserved
make_items-loop-item-preserved t c =
    let l = c.loop-item in
    let left = remaining_of l.left in
    let v = c.item-item.result in
    let w = c.make.new.value in
    let is : remaining_of c.next.new.self ≡ rest_of left = c.next.ensures.rest in
    let within : l.item-index < length l.item-items = search rules in
    let made : view w ≡ changed (view v) (next_of left) =
    c.make.ensures ∙ ap (λ x. changed (view x) c.next.result) (sym c.item-item.is)
    ∙ ap (changed (view v)) c.next.ensures.next in (
      let was = l.invariant.0 in
          let less = depth-rest left in
          let same = ap changes_depth is in
          omega arith,
      λ ws h. made_at IsMade c.args.items.now.items l.item-items l.item-index v w (slots c.args.changes.items)
          left within c.item-item.is made l.invariant.1 ws
          (subst (λ cs. AreMade IsMade (drop (l.item-index + 1) (set l.item-items l.item-index w)) cs ws) is h),
    )

pub make_items-returns : goal.make_items-returns
make_items-returns t c =
    let l = c.loop-item in
    let items = c.args.items.now.items in
    let changes = slots c.args.changes.items in
    let long : length l.item-items ≤ l.item-index =
    let same = l.auto.item-items in
    let end = c.loop-item-test.false in omega arith in
    let made : AreMade IsMade items changes l.item-items =
    subst (AreMade IsMade items changes)
    (append-nil (take l.item-index l.item-items) ∙ take_all l.item-index l.item-items long)
    (l.invariant.1 [] (subst (λ vs. AreMade IsMade vs (remaining_of l.left) [])
    (sym (drop_of_length-le l.item-items long)) tt)) in
    let whole : take c.args.items.now.len (l.item-items ++ drop (length l.item-items) items) ≡ l.item-items =
    let same = l.auto.item-items in
    let len = c.deref_mut-item-items.ensures.len in
    let value = ap length c.deref_mut-item-items.ensures.value in
    ap (λ rest. take c.args.items.now.len (l.item-items ++ rest)) (drop_of_length-le items (omega arith))
    ∙ ap (take c.args.items.now.len) (append-nil l.item-items)
    ∙ take_all c.args.items.now.len l.item-items (omega arith) in
    ap items_view whole ∙ items_made items l.item-items changes made

pub make_members-retain-requires : goal.make_members-retain-requires
make_members-retain-requires t c =
    let all = changes_depth c.args.changes.items in
    callable _ _ (λ f. changes_depth (remaining_of f.0.now) ≤ all)
    (λ f k v b w f' called i.
    let rest : remaining_of f'.0.now ≡ rest_of (remaining_of f.0.now) = search rules in
    let less = depth-rest (remaining_of f.0.now) in
    let same = ap changes_depth rest in omega arith)
    (λ f k v i p q is_k is_v.
    let less : 3 * changes_depth (remaining_of f.0.now) + 1 < 3 * all + 2 = omega arith in search rules) _ _
    (subst (λ cs. changes_depth cs ≤ all) (sym c.new-left.ensures) (depth-slots c.args.changes.items))

pub make_members-returns : goal.make_members-returns
make_members-returns t c =
    let made = made_by_retain IsMade _ (λ f. remaining_of f.0.now) (λ f k v b w f' called. search rules) _ _ _
    c.retain.ensures.filtered in
    members_made c.args.members.now.entries c.retain.new.self.entries (remaining_of c.new-left.result) made.0 made.1
    ∙ ap (with_members (members_view c.args.members.now.entries)) c.new-left.ensures
