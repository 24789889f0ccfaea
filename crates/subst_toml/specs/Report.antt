-- Error reports for a TOML document.
use Rattle.std.specs.Prelude.{◌≡◌, ⊤, ℕ, List, Option, None, MatchOption}
use Rattle.std.specs.declared.ops.Range.{Range}
use Rattle.toml.specs.Errors.{span_start, span_end}
use Rattle.toml.specs.Parse.{parse_document}
use Rattle.toml.specs.declared.de.error.Error as reading
use Rattle.subst_error.specs.ErrorFault.{error_fault}
use Rattle.subst_error.specs.Range.{IsRangeIn}
use Rattle.subst_language.specs.Language.Answer.{Answer}
use Rattle.subst_document.specs.declared.edits.RefusalAt as found
use Rattle.subst_toml.specs.DottedKey.{dotted_text}
use Rattle.subst_toml.specs.Filled.{refusal_in, HasFaultInText}
use Rattle.subst_toml.specs.Listed.{AreAllRefused}
use Rattle.subst_toml.specs.Outcome.{ReadsAsTree}
use Rattle.subst_toml.specs.Paths.{steps_of}
use Rattle.subst_toml.specs.Places.{IsPlaceIn}
use Rattle.subst_toml.specs.declared.error.Error.{Error}
use Rattle.subst_toml.specs.declared.error.Error.TheVariants.{InvalidUtf8, Toml, Subst, OutOfMemory}
use Rattle.subst_toml.specs.declared.path.Path.{Path}
use Rattle.subst_document.specs.Report.{lines_of, ReportsAll, ReportsFault}

abbrev pub RefusalAt : Type 0
RefusalAt = found.RefusalAt Path

-- the range of the fault is within the refused string
abbrev pub HasRange : RefusalAt → Type 0
HasRange it = HasFaultInText (refusal_in it)

-- `text` reports the refused string `it` of s; s is the text of `file`
abbrev pub ReportsRefused : (file s : List ℕ) → RefusalAt → List ℕ → Type 0
ReportsRefused file s it text =
    ReportsFault IsPlaceIn file s (dotted_text (steps_of it.path)) it.span (error_fault it.error) text

-- the span of the reader's error
abbrev pub span_of : reading.Error → Range ℕ
span_of e = record { start = span_start e; end = span_end e }

-- `text` reports the reader's error e in s, the text of `file`. If s isn't a document, the report has a place
-- in s. The place is the span of e if that span is a range of s. If s is a document that doesn't fit a type,
-- the report has no place.
abbrev pub ReportsReader : reading.Error → (file s text : List ℕ) → Type 0
ReportsReader e file s text =
    (place : Option (Range ℕ)) × (message : List ℕ)
    × MatchOption place (ReadsAsTree s (λ _. ⊤)) (λ place. (parse_document s ≡ None) × IsRangeIn s place
    × (IsRangeIn s (span_of e) → place ≡ span_of e))
    × (text ≡ lines_of file s place message)

-- `text` reports the error of a call that fills in s, the text of `file`
abbrev pub Reports : (List ℕ → Answer → Type 0) → (file s : List ℕ) → Error → List ℕ → Type 0
Reports ask file s (InvalidUtf8 e) text = (message : List ℕ) × (text ≡ lines_of file s None message)
Reports ask file s (Toml e) text = ReportsReader e file s text
Reports ask file s (Subst e) text = ReportsAll (AreAllRefused ask s) ReportsRefused file s (error_fault e) text
Reports ask file s (OutOfMemory e) text = ⊥
