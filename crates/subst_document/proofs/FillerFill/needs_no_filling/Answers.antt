-- The output of a plain text is the text.
use Rattle.std.proofs.Common.{ℕ, List, subst}
use Rattle.std.specs.List.{All}
use Rattle.subst_language.specs.Language.Bytes.{IsPlain}
use Rattle.subst_document.proofs.FillerLemmas.{plain_text}
use Rattle.subst_document.proofs.FillerFill.needs_no_filling.Goals as goal

pub returns : goal.returns
returns g c = record {
  itself = λ is. plain_text _ _ _ c.args.text.now (subst (λ (x : List ℕ). All IsPlain x) c.as_bytes.ensures.value
      (c.is_plain.ensures.plain.0 is));
}
