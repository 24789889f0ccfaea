-- Error reports for a JSON text.
use Rattle.std.specs.Prelude.{◌≡◌, ⊤, ℕ, List, Option, None, MatchOption}
use Rattle.std.specs.declared.ops.Range.{Range}
use Rattle.serde_json.specs.Read.{read}
use Rattle.subst_error.specs.ErrorFault.{error_fault}
use Rattle.subst_language.specs.Language.Answer.{Answer}
use Rattle.subst_document.specs.Refused.{HasRangeInText}
use Rattle.subst_json.specs.Listed.{refusal_at, AreAllRefused, RefusalAt}
use Rattle.subst_json.specs.Outcome.{ReadsAsTree}
use Rattle.subst_json.specs.Paths.{steps_of}
use Rattle.subst_json.specs.Places.{IsPlaceIn}
use Rattle.subst_json.specs.Pointer.{pointer_text}
use Rattle.subst_json.specs.Stop.{IsStop}
use Rattle.subst_json.specs.declared.error.Error.{Error}
use Rattle.subst_json.specs.declared.error.Error.TheVariants.{Json, Subst, OutOfMemory}
use Rattle.subst_document.specs.Report.{lines_of, ReportsAll, ReportsFault}

-- the range of the fault is within the refused string
abbrev pub HasRange : RefusalAt → Type 0
HasRange it = HasRangeInText (refusal_at it)

-- `text` reports the refused string `it` of a file whose text is s
abbrev pub ReportsRefused : (file s : List ℕ) → RefusalAt → List ℕ → Type 0
ReportsRefused file s it text =
    ReportsFault IsPlaceIn file s (pointer_text (steps_of it.path)) it.span (error_fault it.error) text

-- `text` reports the reader's message. If s isn't JSON, the report has the place at which the reader stopped.
-- If the tree of s doesn't fit a type, the report has no place.
abbrev pub ReportsReader : (file s text : List ℕ) → Type 0
ReportsReader file s text =
    (place : Option (Range ℕ)) × (message : List ℕ)
    × MatchOption place (ReadsAsTree s (λ _. ⊤)) (λ place. (read s ≡ None) × IsStop s place)
    × (text ≡ lines_of file s place message)

-- `text` reports the error of a failed call on a file whose text is s
abbrev pub Reports : (List ℕ → Answer → Type 0) → (file s : List ℕ) → Error → List ℕ → Type 0
Reports ask file s (Json e) text = ReportsReader file s text
Reports ask file s (Subst e) text = ReportsAll (AreAllRefused ask s) ReportsRefused file s (error_fault e) text
Reports ask file s (OutOfMemory e) text = ⊥
