-- A byte is skipped, or it is no quote and begins no half without the other one.
use Rattle.std.proofs.Common.{◌≡◌, ◌<◌, ◌+◌, ◌∙◌, ap, arith, drop, get_or, length, sym}
use Rattle.subst_expander.specs.Mistakes.{after_first, is_lone_at, lone_at}
use Rattle.subst_expander.proofs.MistakeLemmas.{lone_skipped, lone_next, no_quote, whole_rest}
use Rattle.subst_expander.proofs.document.mistake.lone_surrogate.Goals as goal
use Rattle.subst_expander.proofs.document.mistake.lone_surrogate.Goals.{then-to_skip-gt0, else-to_skip-gt0+else-byte_at-eq34+else-is_lone}

pub loop-at-preserved : goal.loop-at-preserved
loop-at-preserved c =
    let at = c.loop-at.at in
    let string = c.args.string.now in
    let rest = drop at string in
    let lt : at < length string = omega arith in
    elim c.if-to_skip-gt0.branch [
      | then-to_skip-gt0 w ↦
          let some : 0 < c.loop-at.to_skip = omega (arith, w.if-to_skip-gt0) in
          rw w.to_skip-is (c.loop-at.invariant ∙ lone_skipped at c.loop-at.to_skip string lt some)
      | else-to_skip-gt0+else-byte_at-eq34+else-is_lone w ↦
          let none : c.loop-at.to_skip ≡ 0 = omega (arith, w.if-to_skip-gt0) in
          let whole = whole_rest at string in
          let first = ap (λ xs. get_or xs 0 0) whole in
          let byte = w.byte_at.ensures ∙ first in
          let quote = no_quote w.byte_at.result (get_or rest 0 0) byte w.if-byte_at-eq34.false in
          let lone = sym (w.is_lone.ensures ∙ ap is_lone_at whole) ∙ w.if-is_lone.false in
          let to_skip = w.to_skip-is ∙ w.bytes_after-to_skip.ensures ∙ ap after_first whole in
          c.loop-at.invariant ∙ ap (λ p. lone_at at p rest) none ∙ lone_next at string lt quote lone
          ∙ ap (λ p. lone_at (at + 1) p (drop (at + 1) string)) (sym to_skip)
    ]
