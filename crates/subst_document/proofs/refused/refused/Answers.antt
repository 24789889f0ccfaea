-- One more string has an output, or is refused.
use Rattle.std.proofs.Common.{◌≡◌, ℕ, ◌+◌, List, [], ◌∷◌, ◌++◌, ◌<◌, length, get_or, drop, inl, inr, refl, sym, ap, ◌∙◌, subst, append_assoc, append-nil}
use Rattle.std.proofs.lemmas.List.{drop_more, drop_all}
use Rattle.subst_document.specs.Refused.{AreRefusedOf}
use Rattle.subst_document.specs.declared.edits.StringAt.{StringAt}
use Rattle.subst_document.proofs.refused.refused.Goals as goal

-- the next string is before the rest
cut : (list : List StringAt) (i : ℕ) (it : StringAt) → i < length list → it ≡ get_or list i it
    → it ∷ drop (i + 1) list ≡ drop i list
cut list i it within is = ap (λ x. x ∷ drop (i + 1) list) is ∙ sym (drop_more list i it within)

pub loop-index-preserved-in_default : goal.loop-index-preserved-in_default
loop-index-preserved-in_default g c = λ more h.
    let l = c.loop-index in
    l.invariant more
    (subst (λ xs. AreRefusedOf (g.F.Fill.answers c.args.filler.now) (λ i path. path ≡ i) l.index xs more)
    (cut c.args.list.now l.index c.index-list-index.result c.loop-index-test.true c.index-list-index.is)
    (inl (rw c.in_default.is at c.in_ok-refusal.ensures, h)))

pub loop-index-preserved : goal.loop-index-preserved
loop-index-preserved g c = λ more h.
    let l = c.loop-index in
    let ask = g.F.Fill.answers c.args.filler.now in
    let refusal = c.in-Some.refusal in
    subst (AreRefusedOf ask (λ i path. path ≡ i) 0 c.args.list.now)
    (sym (append_assoc l.all.items (refusal ∷ []) more) ∙ ap (λ xs. xs ++ more) (sym c.in_ok-push.ensures.items))
    (l.invariant (refusal ∷ more)
    (subst (λ xs. AreRefusedOf ask (λ i path. path ≡ i) l.index xs (refusal ∷ more))
    (cut c.args.list.now l.index c.index-list-index.result c.loop-index-test.true c.index-list-index.is)
    (inr (refusal, more, refl, rw c.in-Some.is at c.in_ok-refusal.ensures, h))))

pub returns : goal.returns
returns g c =
    let l = c.loop-index in
    let ask = g.F.Fill.answers c.args.filler.now in
    subst (AreRefusedOf ask (λ i path. path ≡ i) 0 c.args.list.now) (append-nil l.all.items)
    (l.invariant [] (subst (λ xs. AreRefusedOf ask (λ i path. path ≡ i) l.index xs [])
    (sym (drop_all l.index c.args.list.now c.loop-index-test.false)) refl))
