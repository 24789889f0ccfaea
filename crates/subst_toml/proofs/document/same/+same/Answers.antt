-- One more item is equal, and one more member.
use Rattle.std.proofs.Common.{◌≡◌, ℕ, ◌+◌, ◌<◌, List, [], ◌∷◌, ◌++◌, length, get_or, take, ap, sym, ◌∙◌, append_assoc, string_bytes, rules, arith}
use Rattle.std.proofs.lemmas.List.{take_more, length-append}
use Rattle.toml.specs.View.{view, items_view}
use Rattle.toml.specs.declared.value.Value.{Value}
use Rattle.toml.proofs.Views.{Entry, items_view-push, members_view-last}
use Rattle.subst_toml.proofs.document.same.+same.Goals as goal

item_more : (xs ys : List Value) (i : ℕ) (x y : Value) → i < length xs → i < length ys
    → x ≡ get_or xs i x → y ≡ get_or ys i y → items_view (take i xs) ≡ items_view (take i ys)
    → view x ≡ view y → items_view (take (i + 1) xs) ≡ items_view (take (i + 1) ys)
item_more xs ys i x y within room here there h same =
    ap items_view (take_more xs i x within ∙ ap (λ v. take i xs ++ v ∷ []) (sym here))
    ∙ items_view-push (take i xs) x ∙ rw (h, same) (sym (items_view-push (take i ys) y))
    ∙ ap items_view (sym (take_more ys i y room ∙ ap (λ v. take i ys ++ v ∷ []) (sym there)))

pub are_same-loop-index-preserved : goal.are_same-loop-index-preserved
are_same-loop-index-preserved t c =
    let long = c.if-len.false in
    let count = c.len.ensures in
    let other_count = c.len-2.ensures in
    item_more c.deref-item-items.result.now c.args.other.now.items c.loop-index.index c.item-item.result
    c.index.result.now (omega arith) (grind arith) c.item-item.is c.index.ensures c.loop-index.invariant
    (search rules)

pub is_same_table-loop-key-preserved : goal.is_same_table-loop-key-preserved
is_same_table-loop-key-preserved t c =
    let l = c.loop-key in
    let e : Entry = (c.in-Some.key.now, c.in-Some.member.now) in
    let o : Entry = (c.in-Some-next.other_key.now, c.in-Some-next.other.now) in
    let same_key : string_bytes e.0 ≡ string_bytes o.0 = search rules in
    let same_value : view e.1 ≡ view o.1 = search rules in (
      l.invariant.0 ++ e ∷ [],
      l.invariant.1 ++ o ∷ [],
      l.invariant.2 ∙ ap (λ es. l.invariant.0 ++ es) c.in-Some.ensures.steps
          ∙ sym (append_assoc l.invariant.0 (e ∷ []) c.next.new.self),
      l.invariant.3 ∙ ap (λ es. l.invariant.1 ++ es) c.in-Some-next.ensures.steps
          ∙ sym (append_assoc l.invariant.1 (o ∷ []) c.next-in-loop-key.new.self),
      length-append l.invariant.0 (e ∷ []) ∙ ap (λ n. n + 1) l.invariant.4
          ∙ sym (length-append l.invariant.1 (o ∷ [])),
      members_view-last l.invariant.0 e.0 e.1 ∙ rw (l.invariant.5, same_key, same_value)
          (sym (members_view-last l.invariant.1 o.0 o.1)),
    )
