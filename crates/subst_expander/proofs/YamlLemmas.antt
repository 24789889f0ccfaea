-- The library's results for a YAML text.
use Rattle.std.proofs.Common.{◌≡◌, ℕ, List, Result, Err, IfErr, IsUtf8}
use Rattle.subst.proofs.Calling.{yaml_document_weaker}
use Rattle.subst.specs.ErrorFault.{error_fault}
use Rattle.subst.specs.Errors.{Error}
use Rattle.subst.specs.Fault as library
use Rattle.subst.specs.Language.Answer.{Answer, Gives, Refuses}
use Rattle.subst.specs.Yaml as yaml
use Rattle.subst.specs.Yaml.InPlace.{holds, Holds}
use Rattle.subst_yaml.specs.declared.error.Fault.{Fault}
use Rattle.subst_yaml.specs.declared.error.Reason.{Reason}
use Rattle.subst_yaml.specs.declared.error.Reason.TheVariants.{InvalidUtf8, Reader}
use Rattle.subst_expander.proofs.DocumentLemmas.{stated}
use Rattle.subst_expander.specs.Documents.{IsNoDocument}
use Rattle.subst_expander.specs.Fill.{GivesAs, GivesFor, IsDocumentOutput}
use Rattle.subst_expander.specs.Layers.{Entry}
use Rattle.subst_expander.specs.Strings.{AnswersBy, FillsFrom}
use Rattle.subst_expander.specs.declared.document.filler.StringFiller.{StringFiller}
use Rattle.subst_expander.specs.declared.document.format.Format.TheVariants.{Yaml}

-- a text that is refused for this reason is no document
by_reason : (text : List ℕ) → IsUtf8 text → (reason : Reason) → holds text reason → IsNoDocument Yaml text
by_reason text utf8 InvalidUtf8 no_utf8 = absurd (no_utf8 utf8)
by_reason text utf8 (Reader reason) none = λ (es, reads, _). absurd (cc)

-- a text for which the library returns that error is no document
pub yaml_reader : {T : Type 0} (text : List ℕ) → IsUtf8 text → (returned : Result T yaml.Error)
    → yaml.Outcome.IfYaml returned (Holds text)
    → (fault : Fault) × (returned ≡ Err (yaml.error.Yaml fault)) → IsNoDocument Yaml text
yaml_reader text utf8 returned says (fault, is) = by_reason text utf8 fault.reason (rw is at says)

-- the document that the library returns is filled in from these entries
pub yaml_output : (filler : StringFiller) (entries : List Entry) → FillsFrom filler entries
    → (source output : List ℕ) → yaml.InPlace.IsFilledDocument (AnswersBy filler) source output
    → IsDocumentOutput Yaml (GivesFor filler.placeholders.now entries) source output
yaml_output filler entries from =
    yaml_document_weaker (AnswersBy filler) (GivesAs (GivesFor filler.placeholders.now entries)) weaker
  where
    weaker : (s : List ℕ) (answer : Answer) → AnswersBy filler s answer
        → GivesAs (GivesFor filler.placeholders.now entries) s answer
    weaker s (Gives x) it = it.1 entries from
    weaker s (Refuses f) it = tt

-- if the library returns the error of a string, it has a fault with its property
pub yaml_string : {T : Type 0} (returned : Result T yaml.Error) (P : library.Fault → Type 0)
    → yaml.Outcome.OnSubst returned P → IfErr returned yaml.Errors.HasOwnMemory
    → (e : Error) × (returned ≡ Err (yaml.error.Subst e)) → (f : library.Fault) × P f
yaml_string returned P says own (e, is) = stated (error_fault e) P (rw is at own) (rw is at says)
