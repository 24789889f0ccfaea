-- Reports of refused strings in a document, in the form of a compiler's errors.
use Rattle.std.specs.Prelude.{◌≡◌, ◌≢◌, ◌⊎◌, ℕ, ◌-◌, nat_eq, if◌then◌else◌, List, [], ◌∷◌, ◌++◌, length, take, Option, Some, None, IfSome, codes}
use Rattle.std.specs.Fmt.{decimal}
use Rattle.std.specs.List.{ends_with}
use Rattle.std.specs.declared.ops.Range.{Range}
use Rattle.subst_error.specs.Display.{IsDisplayOfError}
use Rattle.subst_error.specs.Fault.{Fault}
use Rattle.subst_error.specs.Highlighting.{highlighting_at}
use Rattle.subst_error.specs.Position.{position_at}
use Rattle.subst_error.specs.Range.{range_of}

-- The underlined line `excerpt`. If the underline ends in a space, as for an empty range, a caret is added.
abbrev pub with_caret : List ℕ → List ℕ
with_caret excerpt =
    if ends_with nat_eq excerpt (codes " \n") then take (length excerpt - 2) excerpt ++ codes " ^\n" else excerpt

-- `file:line:column: message` for a place in the text s, and then the line of s with the place underlined
abbrev pub lines_at : List ℕ → List ℕ → Range ℕ → List ℕ → List ℕ
lines_at file s place message =
    let at = position_at place.start s in
    file ++ codes ":" ++ decimal at.0 ++ codes ":" ++ decimal at.1 ++ codes ": " ++ message ++ codes "\n"
    ++ with_caret (highlighting_at place s)

-- the lines of `lines_at` if there is a place, or else `file: message`
abbrev pub lines_of : List ℕ → List ℕ → Option (Range ℕ) → List ℕ → List ℕ
lines_of file s None message = file ++ codes ": " ++ message ++ codes "\n"
lines_of file s (Some place) message = lines_at file s place message

-- the message for a refused string: `path: shown`, or only `shown` if the path is empty; `shown` is the text
-- of the string's fault
abbrev pub with_path : List ℕ → List ℕ → List ℕ
with_path [] shown = shown
with_path (b ∷ path) shown = (b ∷ path) ++ codes ": " ++ shown

-- `text` reports a fault of the string at this path and this span of the text s. If the report has a place,
-- `IsPlaceIn` holds of s, the span, the range of the fault and the place.
abbrev pub ReportsFault : (List ℕ → Range ℕ → Range ℕ → Range ℕ → Type 0) → (file s path : List ℕ)
    → Range ℕ → Option Fault → List ℕ → Type 0
ReportsFault IsPlaceIn file s path span fault text =
    (place : Option (Range ℕ)) × (shown : List ℕ) × IfSome place (IsPlaceIn s span (range_of fault))
    × IsDisplayOfError fault shown × (text ≡ lines_of file s place (with_path path shown))

-- `text` is the reports of these values, concatenated
abbrev pub AreReports : {T : Type 0} → (T → List ℕ → Type 0) → List T → List ℕ → Type 0
AreReports Reports [] text = text ≡ []
AreReports Reports (it ∷ rest) text =
    (first : List ℕ) × (more : List ℕ) × (text ≡ first ++ more) × Reports it first
    × AreReports Reports rest more

-- Either `text` is the reports of all refused strings, and there is at least one such string. Or `text` is
-- the report of `fault`, without a place.
abbrev pub ReportsAll : {T : Type 0} → (List T → Type 0) → (List ℕ → List ℕ → T → List ℕ → Type 0)
    → (file s : List ℕ) → Option Fault → List ℕ → Type 0
ReportsAll {T} AreAll Reports file s fault text =
    ((all : List T) × AreAll all × (all ≢ []) × AreReports (Reports file s) all text)
    ⊎ ((shown : List ℕ) × IsDisplayOfError fault shown × (text ≡ lines_of file s None shown))
