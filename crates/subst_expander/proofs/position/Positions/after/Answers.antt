-- The text in between is counted from the converter's offset.
use Rattle.std.proofs.Common.{◌≡◌, ◌+◌, ◌-◌, ◌<◌, ◌^◌, ◌==◌, ◌∙◌, cond, length, min, slice_range, string_bytes, subst, sym, arith, rules}
use Rattle.std.specs.Str.{IsUtf8}
use Rattle.std.proofs.lemmas.Bool.Decides.{nat_tests}
use Rattle.subst.specs.Position.{position_at}
use Rattle.subst_expander.proofs.PositionLemmas.{position_after}
use Rattle.subst_expander.proofs.position.Positions.after.Goals.{then-line-eq1, else-line-eq1}
use Rattle.subst_expander.proofs.position.Positions.after.Goals as goal

pub returns : goal.returns
returns c utf8 =
    let self = c.args.self.now in
    let s = self.source.now in
    let n = c.args.offset in
    let text = string_bytes c.in_ok-text.text in
    let at = c.line_and_column-line.result in
    let between : c.unwrap_or-between.result.now ≡ slice_range s self.offset n = search rules in
    let here : at ≡ position_at (length text) text = search rules in
    let small : length s < 2 ^ 63 = omega arith in
    let (lines, columns) = position_after s text self.offset n self.last.line self.last.column at c.requires.from
    c.requires.within small self.cut self.position
    (λ u. c.in_ok-text.ensures.ok (subst IsUtf8 (sym between) u) ∙ between) here (search rules) utf8 in
    let column : c.if-line-eq1.column
    ≡ cond (at.0 == 1) (min (self.last.column + (at.1 - 1)) (2 ^ 64 - 1)) at.1 =
    elim c.if-line-eq1.branch [
      | then-line-eq1 w ↦ grind (arith, nat_tests)
      | else-line-eq1 w ↦ grind (arith, nat_tests)
    ] in
    (omega arith, column ∙ columns)
