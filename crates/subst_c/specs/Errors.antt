-- The faults that records state of a source, and their texts.
use Rattle.std.specs.Prelude.{◌≡◌, ℕ, ◌+◌, ◌-◌, ◌==◌, List, [], ◌∷◌, length, Option, Some, None, IsSome, if◌then◌else◌, chars, nat_le, slice_get, slice_range}
use Rattle.std.specs.Option.{option_map}
use Rattle.std.specs.Str.{is_utf8}
use Rattle.subst_error.specs.Display.{IsDisplayOfFault}
use Rattle.subst_error.specs.ErrorFault.{error_fault}
use Rattle.subst_error.specs.Fault.{Fault, InvalidEscapeSequence, MissingVariableName, UnexpectedCharacter, MissingClosingBrace, NoSuchVariable}
use Rattle.subst_error.specs.declared.CharOrByte.{CharOrByte}
use Rattle.subst_error.specs.declared.CharOrByte.TheVariants.{Char, Byte}
use Rattle.subst_error.specs.declared.Error.{Error}
use Rattle.subst_language.specs.Earlier.BadItem.{brace_or_colon}
use Rattle.subst_language.specs.Language.BadItem.{after_name, after_question_mark}
use Rattle.subst_language.specs.Language.Bytes.{question_mark}
use Rattle.subst_c.specs.declared.fault.FaultRecord.{FaultRecord}

-- the only element of a list, or `None` if it has none or several
abbrev pub only_one : List ℕ → Option ℕ
only_one (x ∷ []) = Some x
only_one list = None

-- the character or the byte that the bytes are: one character in UTF-8, or one byte that is no UTF-8
abbrev pub character_of : List ℕ → Option CharOrByte
character_of bytes =
    if is_utf8 bytes then option_map Char (only_one (chars bytes)) else option_map Byte (only_one bytes)

-- the message that names the characters expected after this byte: after a question mark a closing brace
abbrev pub expected_after : Option ℕ → List ℕ
expected_after (Some before) = if before == question_mark then after_question_mark else after_name
expected_after None = after_name

-- the fault of a backslash at a position, with the bytes of its span
abbrev pub escape_fault : (position : ℕ) → List ℕ → Option Fault
escape_fault position [] = None
escape_fault position (first ∷ []) = Some (InvalidEscapeSequence position None)
escape_fault position (first ∷ rest) = option_map (λ c. InvalidEscapeSequence position (Some c)) (character_of rest)

-- the fault of a missing variable with these bytes as its name, at a position
abbrev pub missing_fault : (position : ℕ) → List ℕ → Option Fault
missing_fault position bytes = if is_utf8 bytes then Some (NoSuchVariable position bytes) else None

-- the fault of a kind at a position, where `bytes` are those of its span, and `before` is the byte before it
abbrev pub fault_of_kind : (kind position : ℕ) → (bytes : List ℕ) → (before : Option ℕ) → Option Fault
fault_of_kind kind position bytes before =
    if kind == 1 then escape_fault position bytes else
    if kind == 2 then Some (MissingVariableName position (length bytes)) else
    if kind == 3 then
    option_map (λ c. UnexpectedCharacter position c (expected_after before)) (character_of bytes) else
    if kind == 4 then option_map (λ brace. MissingClosingBrace position) (only_one bytes) else
    if kind == 5 then missing_fault position bytes else
    if kind == 8 then option_map (λ c. UnexpectedCharacter position c brace_or_colon) (character_of bytes) else
    None

-- the fault that a record states of the source s, or `None` if it states none
abbrev pub stated_fault : List ℕ → FaultRecord → Option Fault
stated_fault s told =
    if nat_le (told.position + told.length) (length s) then
    fault_of_kind told.kind told.position (slice_range s told.position (told.position + told.length))
    (slice_get s (told.position - 1)) else None

-- the error has this fault, or there is neither
abbrev pub IsFaultFound : Option Fault → Option Error → Type 0
IsFaultFound f (Some e) = IsSome f × (error_fault e ≡ f)
IsFaultFound f None = f ≡ None

-- `text` is the text of a fault, or empty if there is none
abbrev pub IsErrorText : Option Fault → List ℕ → Type 0
IsErrorText (Some f) text = IsDisplayOfFault f text
IsErrorText None text = text ≡ []
