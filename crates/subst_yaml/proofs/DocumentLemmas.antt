-- A document and its output. `ask` relates a string to its answers.
use Rattle.std.proofs.Common.{◌≡◌, ℕ, List, sym, subst}
use Rattle.subst_language.specs.Language.Answer.{Answer}
use Rattle.subst_yaml.specs.InPlace.{IsFilledDocument}
use Rattle.subst_yaml.specs.Outcome.{ReadsAs}
use Rattle.subst_yaml.specs.Passes.{AllStay}
use Rattle.subst_yaml.proofs.FilledLemmas.{all_stay}

-- a document whose values are unchanged
pub unchanged_document : (ask : List ℕ → Answer → Type 0) (source output : List ℕ)
    → ReadsAs source (AllStay ask source) → output ≡ source → IsFilledDocument ask source output
unchanged_document ask source output (events, is, stay) kept =
    subst (λ (text : List ℕ). IsFilledDocument ask source text) (sym kept)
    (events, is, (events, is, all_stay ask source 0 events stay))
