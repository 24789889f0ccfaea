-- The name begins with none of the starts so far.
use Rattle.std.proofs.Common.{◌≡◌, ◌++◌, ◌∙◌, ℕ, List, Bor, arith, sym, subst, true≢false}
use Rattle.std.proofs.lemmas.List.{get_or_default, take_all, take_more}
use Rattle.std.proofs.lemmas.List.Elements.{All-push}
use Rattle.subst_expander.proofs.placeholders.begins_with_one.Goals as goal

pub loop-start-preserved : goal.loop-start-preserved
loop-start-preserved c =
    let l = c.loop-start in
    let starts = c.args.starts.now in
    let Begins = λ (start : Bor (List ℕ)). (rest : List ℕ) × (c.args.name.now ≡ start.now ++ rest) in
    rw (take_more starts l.start-index c.args.name (omega (arith, c.loop-start-test.true)))
    (All-push (λ start. ¬ (Begins start)) _ _ l.invariant (λ is.
    let known = c.begins_with.ensures.1 (subst Begins
    (get_or_default starts l.start-index c.args.name _ (omega (arith, c.loop-start-test.true))) is) in
    true≢false (sym known ∙ c.if-begins_with.false)))

pub returns : goal.returns
returns c =
    let every = rw (take_all c.loop-start.start-index c.args.starts.now c.loop-start-test.false) at
    c.loop-start.invariant in (
      λ no. absurd (true≢false (sym no)),
      λ (k, x, below, is, (rest, same)). absurd (every k x below
          (rest, subst (λ (start : Bor (List ℕ)). c.args.name.now ≡ start.now ++ rest) (sym is) same)),
    )
