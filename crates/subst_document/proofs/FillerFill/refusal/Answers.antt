-- The refusal of a text that isn't plain is the error of its substitution.
use Rattle.std.proofs.Common.{◌≡◌, ℕ, List, is_some, string_bytes, true, subst, rules}
use Rattle.std.specs.List.{All}
use Rattle.subst_error.specs.ErrorFault.{error_fault}
use Rattle.subst_language.specs.Language.Bytes.{IsPlain}
use Rattle.subst_document.proofs.FillerLemmas.{plain_text, stated_refusal}
use Rattle.subst_document.proofs.FillerFill.refusal.Goals as goal

pub returns-then-is_plain-clause-answer : goal.returns-then-is_plain-clause-answer
returns-then-is_plain-clause-answer g c =
    let plain = subst (λ (x : List ℕ). All IsPlain x) c.as_bytes.ensures.value
    (c.is_plain.ensures.plain.0 c.if-is_plain.true) in
    (c.args.source.now, plain_text _ _ _ c.args.source.now plain)

pub returns-in-Ok-clause-answer : goal.returns-in-Ok-clause-answer
returns-in-Ok-clause-answer g c =
    (string_bytes c.in-Ok.field-0, (c.in-Ok.ensures.complete, c.in-Ok.ensures.answer))

pub returns-clause-answer : goal.returns-clause-answer
returns-clause-answer g c =
    let states : is_some (error_fault c.in-Err.e) ≡ true = search rules in
    stated_refusal g.M.Value.AsStr.text g.M.VariableMap.see _ c.args.source.now (error_fault c.in-Err.e)
    states c.in-Err.ensures.refusal c.in-Err.ensures.range
