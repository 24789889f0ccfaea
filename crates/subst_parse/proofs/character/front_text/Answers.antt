-- The text is a prefix of the first four bytes, and the longest one.
use Rattle.std.proofs.Common.{sym, ap, ◌∙◌}
use Rattle.subst_language.proofs.Language.FrontCharacterLemmas.{no_character_in_nothing, no_character_in_no_text, read_text}
use Rattle.subst_parse.proofs.character.front_text.Goals as goal
use Rattle.subst_language.proofs.Language.ListLemmas.{front_by_take, front_by_takes}

pub returns-in-Ok-clause-front : goal.returns-in-Ok-clause-front
returns-in-Ok-clause-front c = front_by_take c.min.result c.args.bytes.now c.in-Ok.ensures.cases.0

pub returns-in-Ok-clause-empty : goal.returns-in-Ok-clause-empty
returns-in-Ok-clause-empty c none =
    no_character_in_nothing c.args.bytes.now c.min.result c.min.ensures (sym c.in-Ok.ensures.cases.0 ∙ none)

pub returns-in-Err-clause-front : goal.returns-in-Err-clause-front
returns-in-Err-clause-front c =
    let valid = rw (← c.valid_up_to.ensures) at c.in-Err.ensures.cases.1 in
    let is_text = read_text _ _ c.from_utf8-in-Err.result _ valid.front c.from_utf8-in-Err.ensures.cases in
    front_by_takes c.valid_up_to.result c.min.result c.args.bytes.now
    (ap (λ t. t.now) c.unwrap_or.ensures ∙ is_text)

pub returns-in-Err-clause-empty : goal.returns-in-Err-clause-empty
returns-in-Err-clause-empty c none =
    let valid = rw (← c.valid_up_to.ensures) at c.in-Err.ensures.cases.1 in
    let is_text = read_text _ _ c.from_utf8-in-Err.result _ valid.front c.from_utf8-in-Err.ensures.cases in
    no_character_in_no_text c.args.bytes.now c.min.result c.valid_up_to.result c.min.ensures valid
    (sym is_text ∙ ap (λ t. t.now) (sym c.unwrap_or.ensures) ∙ none)
