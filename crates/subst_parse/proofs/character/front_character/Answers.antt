-- If no text is at the front, no character is, and the answer is the first byte.
use Rattle.std.proofs.Common.{ap, length, arith}
use Rattle.std.proofs.lemmas.List.{nil_from_length}
use Rattle.subst_language.proofs.Language.ListLemmas.{first_byte}
use Rattle.subst_parse.proofs.character.front_character.Goals as goal

pub returns-in-None : goal.returns-in-None
returns-in-None c = (
  c.front_text.ensures.empty
      (nil_from_length c.front_text.result.now
      (omega (arith, ap length c.chars.ensures.rest, c.in-None.ensures.steps.0.0))),
  first_byte c.args.bytes.now c.requires,
)
