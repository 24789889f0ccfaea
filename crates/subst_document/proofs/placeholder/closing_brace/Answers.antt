-- Each byte opens a brace, closes one, escapes the next or changes nothing.
use Rattle.std.proofs.Common.{◌≡◌, ℕ, ◌+◌, ◌-◌, suc, [], ◌∷◌, ◌++◌, take, get_or, ◌∙◌, ap, subst, arith}
use Rattle.std.proofs.lemmas.List.{take_more}
use Rattle.subst_document.proofs.PlaceholderLemmas.{LeavesOpen, open_byte, open_closing, open_escape, open_none, open_opening, reaches_escaped, reaches_plain}
use Rattle.subst_document.proofs.placeholder.closing_brace.Goals as goal
use Rattle.subst_document.proofs.placeholder.closing_brace.Goals.{then-is_escaped, else-is_escaped+then-byte-eq92, else-is_escaped+else-byte-eq92+then-byte-eq123, else-is_escaped+else-byte-eq92+else-byte-eq123+then-byte-eq125+else-depth-eq0, else-is_escaped+else-byte-eq92+else-byte-eq123+else-byte-eq125}

pub returns-then-depth-eq0-clause-balanced : goal.returns-then-depth-eq0-clause-balanced
returns-then-depth-eq0-clause-balanced c =
    let passed = take c.loop-at.at c.args.text.now in
    open_none passed (subst (LeavesOpen passed) c.if-depth-eq0.true
    (c.loop-at.invariant.1.0 c.if-is_escaped.false))

pub loop-at-preserved : goal.loop-at-preserved
loop-at-preserved c =
    let at = c.loop-at.at in
    let text = c.args.text.now in
    let passed = take at text in
    let byte = get_or text at 0 in
    let more = take_more text at 0 c.loop-at-test.true in
    let state = c.loop-at.invariant.1 in
    let is_byte : (b : ℕ) → byte ≡ b → take (at + 1) text ≡ passed ++ b ∷ [] =
    λ b same. more ∙ ap (λ x. passed ++ x ∷ []) same in
    let more_open : suc c.loop-at.depth ≡ c.loop-at.depth + 1 = omega arith in
    elim c.if-is_escaped.branch [
      | then-is_escaped w ↦
          rw (w.depth-is, w.is_escaped-is, more) (
            omega arith,
            reaches_plain (passed ++ byte ∷ []) c.loop-at.depth
                (state.1 w.if-is_escaped.true byte),
          )
      | else-is_escaped+then-byte-eq92 w ↦
          rw (w.depth-is, w.is_escaped-is, is_byte 92 w.if-byte-eq92.true) (
            omega arith,
            reaches_escaped (passed ++ 92 ∷ []) c.loop-at.depth
                (open_escape passed c.loop-at.depth (state.0 w.if-is_escaped.false)),
          )
      | else-is_escaped+else-byte-eq92+then-byte-eq123 w ↦
          rw (w.depth-is, w.is_escaped-is, w.if-is_escaped.false, is_byte 123 w.if-byte-eq123.true) (
            omega arith,
            reaches_plain (passed ++ 123 ∷ []) (c.loop-at.depth + 1)
                (subst (LeavesOpen (passed ++ 123 ∷ [])) more_open
                (open_opening passed c.loop-at.depth (state.0 w.if-is_escaped.false))),
          )
      | else-is_escaped+else-byte-eq92+else-byte-eq123+then-byte-eq125+else-depth-eq0 w ↦
          let one_open : c.loop-at.depth ≡ suc (c.loop-at.depth - 1) = omega arith in
          rw (w.depth-is, w.is_escaped-is, w.if-is_escaped.false, is_byte 125 w.if-byte-eq125.true) (
            omega arith,
            reaches_plain (passed ++ 125 ∷ []) (c.loop-at.depth - 1)
                (open_closing passed (c.loop-at.depth - 1) (subst (LeavesOpen passed) one_open
                (state.0 w.if-is_escaped.false))),
          )
      | else-is_escaped+else-byte-eq92+else-byte-eq123+else-byte-eq125 w ↦
          rw (w.depth-is, w.is_escaped-is, w.if-is_escaped.false, more) (
            omega arith,
            reaches_plain (passed ++ byte ∷ []) c.loop-at.depth
                (open_byte passed c.loop-at.depth (state.0 w.if-is_escaped.false) byte w.if-byte-eq92.false
                w.if-byte-eq123.false w.if-byte-eq125.false),
          )
    ]
