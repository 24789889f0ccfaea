use Rattle.std.proofs.Common.{◌≡◌, ℕ, List, ◌∷◌, ◌++◌, [], drop, drop-cons, get_or, sym, ap, ◌∙◌, refl, subst, append_assoc, append-nil, add-one, rules}
use Rattle.std.proofs.Math.ListN.{drop_of_length-le}
use Rattle.std.specs.declared.ops.Range.{Range}
use Rattle.subst_document.specs.Pieces.{ArePiecesFrom, position}
use Rattle.subst_document.specs.declared.pieces.Position.{Position}
use Rattle.subst_document.proofs.pieces.spans.Goals as goal

-- the span between two positions
abbrev span : Position → Position → Range ℕ
span at to = record { start = at.place; end = to.place }

-- the spans of a range and of those after it
pieces_next : (P : Position → Position → Type 0) (from at to : Position) (range : Range ℕ)
    (ranges rest : List (Range ℕ)) → at.offset ≡ range.start → to.offset ≡ range.end → P from at → P at to
    → ArePiecesFrom P to ranges rest → ArePiecesFrom P from (range ∷ ranges) (span at to ∷ rest)
pieces_next P from at to range ranges rest start end one two more = search (rules, position, span)

pub loop-range-preserved : goal.loop-range-preserved
loop-range-preserved g c rest h =
    let P = g.P.Pieces.is_piece c.args.token.now in
    let ranges = c.args.ranges.now in
    let l = c.loop-range in
    let at = c.in-Some.start in
    let to = c.in-Some-2.end in
    let none : Range ℕ = record { start = 0; end = 0 } in
    let range = get_or ranges l.range-index none in
    let left = drop-cons ranges l.range-index none c.loop-range-test.true
    ∙ ap (λ n. range ∷ drop n ranges) (sym (add-one l.range-index)) in
    let first : (at.offset ≡ range.start) × P l.passed at = search rules in
    let next : (to.offset ≡ range.end) × P at to = search rules in
    let all = l.invariant (span at to ∷ rest) (subst (λ rs. ArePiecesFrom P l.passed rs
    (span at to ∷ rest)) (sym left)
    (pieces_next P l.passed at to range _ rest first.0 next.0 first.1 next.1 h)) in
    subst (ArePiecesFrom P c.args.first ranges)
    (sym (append_assoc l.places.items (span at to ∷ []) rest)
    ∙ ap (λ ps. ps ++ rest) (sym c.in_ok-push.ensures.items)) all

pub returns : goal.returns
returns g c =
    let P = g.P.Pieces.is_piece c.args.token.now in
    let l = c.loop-range in
    let none = sym (drop_of_length-le c.args.ranges.now c.loop-range-test.false) in
    subst (ArePiecesFrom P c.args.first c.args.ranges.now) (append-nil l.places.items)
    (l.invariant [] (subst (λ rs. ArePiecesFrom P l.passed rs []) none refl))
