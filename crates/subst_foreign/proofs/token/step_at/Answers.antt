use Rattle.std.proofs.Common.{◌≡◌, ◌∷◌, drop, get_or, subst, sym, arith}
use Rattle.std.proofs.lemmas.List.{drop_more, take_rest}
use Rattle.subst_foreign.proofs.TokenLemmas.{inner_step, outer_step}
use Rattle.subst_foreign.proofs.token.step_at.Goals as goal
use Rattle.subst_foreign.proofs.token.step_at.Goals.{then-depth-eq0, else-depth-eq0}
use Rattle.subst_foreign.specs.Reading.{grammar_of, IsStep}

pub returns : goal.returns
returns g c =
    let style = c.args.style in
    let grammar = grammar_of g.N.Names.all g.N.Names.counts style in
    let text = c.args.text.now in
    let depth = c.args.depth in
    let first = get_or text 0 0 in
    let splits : text ≡ first ∷ drop 1 text = drop_more text 0 0 c.requires in
    rw take_rest (subst (λ s. IsStep grammar depth s c.if-depth-eq0.token (drop 1 text)) (sym splits)
    (elim c.if-depth-eq0.branch [
      | then-depth-eq0 w ↦ subst (λ t. IsStep grammar depth (first ∷ drop 1 text) t (drop 1 text)) (sym w.token-is)
          (outer_step grammar depth first (drop 1 text) c.if-first-eq36.false w.if-depth-eq0.true)
      | else-depth-eq0 w ↦ subst (λ t. IsStep grammar depth (first ∷ drop 1 text) t (drop 1 text)) (sym w.token-is)
          (inner_step grammar depth first (drop 1 text) w.inner_token-token.result c.if-first-eq36.false
          (omega (arith, w.if-depth-eq0.false)) w.inner_token-token.ensures)
    ]))
