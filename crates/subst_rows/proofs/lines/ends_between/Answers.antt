-- The next byte ends a line, or doesn't.
use Rattle.std.proofs.Common.{◌≡◌, ◌+◌, ◌-◌, drop, length, refl, ap, ◌∙◌, arith, length-drop}
use Rattle.std.proofs.lemmas.List.{take_all}
use Rattle.std.specs.Prelude.{if◌then◌else◌}
use Rattle.subst_rows.specs.Lines.{ends_line_at}
use Rattle.subst_rows.proofs.LineLemmas.{bit_of, bit_small, line_ends-next}
use Rattle.subst_rows.proofs.lines.ends_between.Goals as goal

pub loop-at-preserved : goal.loop-at-preserved
loop-at-preserved c =
    let text = c.args.text.now in
    let at = c.loop-at.at in
    let whole = take_all (length text - at) (drop at text) (omega (arith, length-drop at text)) in
    let bit : c.from-count.result ≡ (if ends_line_at (drop at text) then 1 else 0) =
    c.from-count.ensures ∙ bit_of c.ends_line.result
    ∙ ap (λ b. if b then 1 else 0) (c.ends_line.ensures ∙ ap ends_line_at whole)
    in
    record {
      counted =
          omega (arith, line_ends-next at (at + 1) text refl (omega arith), bit, c.loop-at.invariant.counted);
      bound = omega (arith, c.from-count.ensures, bit_small c.ends_line.result, c.loop-at.invariant.bound);
    }
