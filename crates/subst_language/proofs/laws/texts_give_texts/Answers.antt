use Rattle.std.proofs.Common.{subst}
use Rattle.std.specs.Str.{IsUtf8}
use Rattle.subst_language.proofs.Language.Utf8Lemmas.{value_is_text}
use Rattle.subst_language.proofs.laws.texts_give_texts.Goals as goal

-- the source is the text of its tree
pub returns : goal.returns
returns c = record {
  text = λ s x p look is texts t spells.
      value_is_text t p look x spells.well_formed texts (subst IsUtf8 spells.spelled is);
}
