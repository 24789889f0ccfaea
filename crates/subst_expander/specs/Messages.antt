-- The messages for the faults of a source.
use Rattle.std.specs.Prelude.{◌≡◌, ◌≤◌, ◌==◌, ℕ, Bool, IsTrue, List, [], ◌++◌, codes, length, Option, Some, None, IfSome, if◌then◌else◌, string_bytes}
use Rattle.std.specs.Fmt.{decimal}
use Rattle.std.specs.Int.{is_in_range}
use Rattle.std.specs.List.{list_all}
use Rattle.subst.specs.Display.{display_of_error}
use Rattle.subst.specs.ErrorFault.{error_fault}
use Rattle.subst.specs.Highlighting.{underlined}
use Rattle.subst.specs.Report.{AreReports}
use Rattle.subst_expander.specs.Positions.{IsPositionAt}
use Rattle.subst_expander.specs.declared.fault.Cause.{Cause}
use Rattle.subst_expander.specs.declared.fault.Cause.TheVariants.{Refused, Unset, Unreadable, NotUtf8, NotADocument, Mistake, NotConfirmed, NoVariable, Form, Default}
use Rattle.subst_expander.specs.declared.fault.Fault.{Fault}
use Rattle.subst_expander.specs.declared.fault.Unset.{Unset as UnsetVariable}
use Rattle.subst_expander.specs.declared.source.Excerpts.{Excerpts}
use Rattle.subst_expander.specs.declared.source.Excerpts.TheVariants as excerpts
use Rattle.subst_expander.specs.declared.source.TheConstants.{WIDEST_FAULT, WIDEST_PATH}

-- all bytes are printable characters of ASCII
abbrev pub are_printable : List ℕ → Bool
are_printable text = list_all (is_in_range 32 126) text

-- all bytes are printable characters of ASCII
abbrev pub IsPrintable : List ℕ → Type 0
IsPrintable text = IsTrue (are_printable text)

-- `shown` is `text`, escaped for a terminal and cut to the columns; a printable text that fits is unchanged
abbrev pub IsShown : ℕ → List ℕ → List ℕ → Type 0
IsShown columns text shown = IsPrintable text → length text ≤ columns → shown ≡ text

-- the text of an unset required variable, and its own message, if there is one
abbrev pub text_of_unset : UnsetVariable → List ℕ
text_of_unset it =
    let name = string_bytes it.name in
    let message = string_bytes it.message in
    (if it.is_empty then codes "$" ++ name ++ codes " is empty" else codes "No such variable: $" ++ name)
    ++ (if length message == 0 then [] else codes ": " ++ message)

-- the text of a cause, or `None` for a mistake, for a refused form, or if the text quotes a character that
-- isn't ASCII
abbrev pub text_of : Cause → Option (List ℕ)
text_of (Refused e) = display_of_error (error_fault e)
text_of (Unset it) = Some (text_of_unset it)
text_of (Unreadable name) =
    Some (codes "The value of this variable in the environment isn't UTF-8: $" ++ string_bytes name)
text_of NotUtf8 = Some (codes "invalid UTF-8")
text_of (NotADocument message) = Some (string_bytes message)
text_of (Mistake mistake) = None
text_of NotConfirmed = Some (codes "the result for this document can't be confirmed")
text_of (NoVariable why) = Some why.now
text_of (Form form) = None
text_of (Default text) = Some (string_bytes text)

-- `message` is the text of the fault's cause, after the fault's path if there is one
abbrev pub IsMessage : Fault → List ℕ → Type 0
IsMessage it message =
    (path : List ℕ) × (cause : List ℕ) × IsShown WIDEST_PATH (string_bytes it.path) path
    × IfSome (text_of it.cause) (λ text. IsShown WIDEST_FAULT text cause)
    × (message ≡ (if length (string_bytes it.path) == 0 then cause else path ++ codes ": " ++ cause))

-- the text is some line with a part underlined
abbrev pub IsUnderlinedLine : List ℕ → Type 0
IsUnderlinedLine text = (line : List ℕ) × (spaces : ℕ) × (carets : ℕ) × (text ≡ underlined line spaces carets)

-- the text is an underlined line, or empty without excerpts
abbrev pub IsExcerpt : Excerpts → List ℕ → Type 0
IsExcerpt excerpts.All text = IsUnderlinedLine text
IsExcerpt excerpts.None text = text ≡ []

-- `text` is `name:line:column: error: message` for the fault, and the excerpt
abbrev pub IsReport : Excerpts → List ℕ → (line column : ℕ) → Fault → List ℕ → Type 0
IsReport with name line column it text =
    (message : List ℕ) × (excerpt : List ℕ) × IsMessage it message × IsExcerpt with excerpt
    × (text ≡ name ++ codes ":" ++ decimal line ++ codes ":" ++ decimal column ++ codes ": error: " ++ message
    ++ codes "\n" ++ excerpt)

-- `text` is a report at the line and column at which the fault's range begins in `s`
abbrev pub IsReportIn : Excerpts → (name s : List ℕ) → Fault → List ℕ → Type 0
IsReportIn with name s it text =
    (line : ℕ) × (column : ℕ) × IsPositionAt s it.range.start line column × IsReport with name line column it text

-- `text` is the reports of all faults of the source `s`, in order
abbrev pub AreMessages : Excerpts → (name s : List ℕ) → List Fault → List ℕ → Type 0
AreMessages with name s faults text = AreReports (IsReportIn with name s) faults text
