-- The characters of the text are one, or two or more.
use Rattle.std.proofs.Common.{sym, ◌∙◌}
use Rattle.subst_c.proofs.ErrorsLemmas.{more_characters, one_character}
use Rattle.subst_c.proofs.error.only_character.Goals as goal

pub returns-in-Some : goal.returns-in-Some
returns-in-Some c =
    more_characters c.args.text.now _ _ c.in_ok-first.first c.in-Some.field-0 c.utf8.text
    (sym c.chars-all.ensures.rest ∙ c.in_ok-first.ensures.steps.0) c.in-Some.ensures.steps.0

pub returns-in-None : goal.returns-in-None
returns-in-None c =
    one_character c.args.text.now _ c.in_ok-first.first c.utf8.text
    (sym c.chars-all.ensures.rest ∙ c.in_ok-first.ensures.steps.0) c.in-None.ensures.steps.0.0
