-- A text is its only character, and bytes that are no text are their only byte.
use Rattle.std.proofs.Common.{ap, chars, ◌∙◌}
use Rattle.subst_c.proofs.ErrorsLemmas.{byte_in_bytes, character_in_text, no_character_in_text}
use Rattle.subst_c.specs.Errors.{only_one}
use Rattle.subst_c.proofs.error.character.Goals as goal

pub returns-in_err-only_character-in-Ok : goal.returns-in_err-only_character-in-Ok
returns-in_err-only_character-in-Ok c =
    c.from_residual.ensures
    ∙ no_character_in_text c.args.bytes.now c.in-Ok.ensures.cases.1
    (c.in_err-only_character-in-Ok.ensures ∙ ap (λ x. only_one (chars x)) c.in-Ok.ensures.cases.0)

pub returns-in_err-only_byte-in-Err : goal.returns-in_err-only_byte-in-Err
returns-in_err-only_byte-in-Err c =
    c.from_residual-in_err-only_byte-in-Err.ensures
    ∙ byte_in_bytes c.args.bytes.now _ c.in-Err.ensures.cases.0 c.in_err-only_byte-in-Err.ensures

pub returns-in_ok-only_character-in-Ok : goal.returns-in_ok-only_character-in-Ok
returns-in_ok-only_character-in-Ok c =
    character_in_text c.args.bytes.now c.in_ok-only_character-in-Ok.field-0 c.in-Ok.ensures.cases.1
    (c.in_ok-only_character-in-Ok.ensures ∙ ap (λ x. only_one (chars x)) c.in-Ok.ensures.cases.0)

pub returns-in_ok-only_byte-in-Err : goal.returns-in_ok-only_byte-in-Err
returns-in_ok-only_byte-in-Err c =
    byte_in_bytes c.args.bytes.now _ c.in-Err.ensures.cases.0 c.in_ok-only_byte-in-Err.ensures
