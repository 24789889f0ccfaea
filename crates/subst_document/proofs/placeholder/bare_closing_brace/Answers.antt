-- Each byte opens a brace, closes one or changes nothing.
use Rattle.std.proofs.Common.{◌≡◌, ℕ, ◌+◌, ◌-◌, ◌==◌, not, suc, [], ◌∷◌, ◌++◌, take, get_or, ◌∙◌, ap, subst, arith}
use Rattle.std.proofs.lemmas.List.{take_more}
use Rattle.std.proofs.lemmas.List.Elements.{filter-append}
use Rattle.subst_document.specs.Splice.{bare}
use Rattle.subst_document.proofs.PlaceholderLemmas.{LeavesOpen, open_bare, open_closing, open_none, open_opening}
use Rattle.subst_document.proofs.placeholder.bare_closing_brace.Goals as goal
use Rattle.subst_document.proofs.placeholder.bare_closing_brace.Goals.{then-byte-eq123, else-byte-eq123+then-byte-eq125+else-depth-eq0, else-byte-eq123+else-byte-eq125}

pub returns-then-depth-eq0-clause-balanced : goal.returns-then-depth-eq0-clause-balanced
returns-then-depth-eq0-clause-balanced c =
    let passed = bare (take c.loop-at.at c.args.text.now) in
    open_none passed (subst (LeavesOpen passed) c.if-depth-eq0.true c.loop-at.invariant.1)

pub loop-at-preserved : goal.loop-at-preserved
loop-at-preserved c =
    let at = c.loop-at.at in
    let text = c.args.text.now in
    let passed = take at text in
    let byte = get_or text at 0 in
    let more = take_more text at 0 c.loop-at-test.true in
    let leaves = c.loop-at.invariant.1 in
    let is_byte : (b : ℕ) → byte ≡ b → take (at + 1) text ≡ passed ++ b ∷ [] =
    λ b same. more ∙ ap (λ x. passed ++ x ∷ []) same in
    let more_open : suc c.loop-at.depth ≡ c.loop-at.depth + 1 = omega arith in
    let joined = filter-append (λ b. not (b == 92)) passed in
    elim c.if-byte-eq123.branch [
      | then-byte-eq123 w ↦
          rw (w.depth-is, is_byte 123 w.if-byte-eq123.true, joined (123 ∷ [])) (
            omega arith,
            subst (LeavesOpen (bare passed ++ 123 ∷ [])) more_open
                (open_opening (bare passed) c.loop-at.depth leaves),
          )
      | else-byte-eq123+then-byte-eq125+else-depth-eq0 w ↦
          let one_open : c.loop-at.depth ≡ suc (c.loop-at.depth - 1) = omega arith in
          rw (w.depth-is, is_byte 125 w.if-byte-eq125.true, joined (125 ∷ [])) (
            omega arith,
            open_closing (bare passed) (c.loop-at.depth - 1) (subst (LeavesOpen (bare passed)) one_open leaves),
          )
      | else-byte-eq123+else-byte-eq125 w ↦
          rw (w.depth-is, more) (
            omega arith,
            open_bare passed c.loop-at.depth byte leaves w.if-byte-eq123.false w.if-byte-eq125.false,
          )
    ]
