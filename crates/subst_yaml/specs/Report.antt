-- Error reports for a text of YAML.
use Rattle.std.specs.Prelude.{◌≡◌, ℕ, List, Option, Some, None, IfSome}
use Rattle.std.specs.declared.ops.Range.{Range}
use Rattle.subst_error.specs.ErrorFault.{error_fault}
use Rattle.subst_error.specs.Range.{IsRangeIn}
use Rattle.subst_language.specs.Language.Answer.{Answer}
use Rattle.subst_document.specs.Report.{lines_of, ReportsAll, ReportsFault}
use Rattle.subst_yaml.specs.Errors.{display_of_reason}
use Rattle.subst_yaml.specs.Listed.{AreAllRefused, RefusalAt}
use Rattle.subst_yaml.specs.Paths.{path_of, path_text}
use Rattle.subst_yaml.specs.Places.{IsPlaceIn}
use Rattle.subst_yaml.specs.declared.error.Error.{Error}
use Rattle.subst_yaml.specs.declared.error.Error.TheVariants.{Yaml, Subst, OutOfMemory}
use Rattle.subst_yaml.specs.declared.error.Fault.{Fault}

-- `text` is the report of `it`, a refused string of s; s is the text of `file`
abbrev pub ReportsRefused : (file s : List ℕ) → RefusalAt → List ℕ → Type 0
ReportsRefused file s it text =
    ReportsFault IsPlaceIn file s (path_text (path_of it.path)) it.span (error_fault it.error) text

-- the span of the reader's refusal, as a range
abbrev pub span_of : Fault → Range ℕ
span_of fault = record { start = fault.span.start; end = fault.span.«end» }

-- `text` is the reader's message with a place in s, the text of `file`. The place is the span of the refusal,
-- if that is a range of s at character boundaries.
abbrev pub ReportsReader : Fault → (file s text : List ℕ) → Type 0
ReportsReader fault file s text =
    (place : Range ℕ) × IsRangeIn s place × (IsRangeIn s (span_of fault) → place ≡ span_of fault)
    × (text ≡ lines_of file s (Some place) (display_of_reason fault.reason))

-- `text` is the report of this error, which came from filling in s, the text of `file`
abbrev pub Reports : (List ℕ → Answer → Type 0) → (file s : List ℕ) → Error → List ℕ → Type 0
Reports ask file s (Yaml fault) text = ReportsReader fault file s text
Reports ask file s (Subst e) text = ReportsAll (AreAllRefused ask s) ReportsRefused file s (error_fault e) text
Reports ask file s (OutOfMemory e) text = ⊥
