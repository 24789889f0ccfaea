-- All are UTF-8 if the source and the values are.
use Rattle.std.proofs.Common.{◌≡◌, true, false, ◌∙◌, refl, rules}
use Rattle.subst_c.specs.Text.{have_texts}
use Rattle.subst_c.proofs.TextLemmas.{texts_of_a_text, texts_of_no_text}
use Rattle.subst_c.proofs.answer.as_texts.Goals as goal

pub returns-in_default : goal.returns-in_default
returns-in_default c = texts_of_no_text c.args.source.now c.args.pairs.now (λ is. c.in_default.ensures is)

pub returns-then-not-values_are_texts : goal.returns-then-not-values_are_texts
returns-then-not-values_are_texts c =
    let values : have_texts c.args.pairs.now ≡ false = search rules in
    texts_of_a_text c.args.source.now c.args.pairs.now c.in-Ok.ensures.1 ∙ values

pub returns : goal.returns
returns c =
    let values : have_texts c.args.pairs.now ≡ true = search rules in
    (c.in-Ok.ensures.0, refl, texts_of_a_text c.args.source.now c.args.pairs.now c.in-Ok.ensures.1 ∙ values)
