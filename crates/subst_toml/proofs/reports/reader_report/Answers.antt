-- The reader refuses the text again, at the span of the error.
use Rattle.std.proofs.Common.{◌≡◌, ℕ, Some, None, refl, sym, rules, ◌∙◌}
use Rattle.std.proofs.lemmas.Result.{IfOk-weaker}
use Rattle.std.specs.declared.ops.Range.{Range}
use Rattle.toml.specs.Parse.{parse_document}
use Rattle.subst_toml.proofs.reports.reader_report.Goals as goal

range_is : (range : Range ℕ) (start end : ℕ) → range.start ≡ start → range.end ≡ end
    → range ≡ record { start = start; end = end }
range_is range start end p q = rw (sym p, sym q) refl

pub returns : goal.returns
returns c =
    let none : parse_document c.args.source.now ≡ None = search rules in
    let span = range_is c.in-Some.span _ _ c.in-Some.ensures.range.0 c.in-Some.ensures.range.1 in
    IfOk-weaker c.lines-in-Err-2.result _ _ (λ text is. (
      Some c.in_text-place.result,
      c.message.result.now,
      (none, c.in_text-place.ensures.within, (λ within. c.in_text-place.ensures.same (rw span within) ∙ span)),
      is,
    )) c.lines-in-Err-2.ensures
