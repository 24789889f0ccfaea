-- Four texts are written; the second is a quoted form of the character.
use Rattle.std.proofs.Common.{rules, refl, true, Ok}
use Rattle.subst_error.proofs.StyledLemmas.{unexpected_styled}
use Rattle.subst_error.proofs.WritingLemmas.{unexpected_written}
use Rattle.subst_error.proofs.display.UnexpectedCharacterDisplay.fmt.Goals as goal

pub returns-clause-text : goal.returns-clause-text
returns-clause-text g c plain ok =
    let before = c.in_ok-write_str.ensures.writes plain (refl {a = true}) in
    let quoted = c.in_ok-fmt.ensures.text before.plain (refl {a = true}) in
    let between = c.in_ok-write_str-2.ensures.writes quoted.wrote.plain (refl {a = true}) in
    let after = c.write_str-3.ensures.writes between.plain ok in
    search (rules, unexpected_written)

pub returns-clause-styled : goal.returns-clause-styled
returns-clause-styled g c =
    unexpected_styled g.W.Write.write_str_gives _ _ _ _ _ (Ok c.in_ok-fmt.field-0) _ c.args.self.now.character
    c.quoted_printable-character.result _ _
    (λ flush. c.in_ok-write_str.ensures.styled flush (refl {a = true})) c.in_ok-fmt.ensures.styled
    (refl {a = true}) (λ flush. c.in_ok-write_str-2.ensures.styled flush (refl {a = true}))
    c.write_str-3.ensures.styled (search rules) (search rules)
