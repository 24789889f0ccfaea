-- The result of a call that reads a tree and fills it in.
use Rattle.std.specs.Prelude.{◌≡◌, ◌≤◌, ◌⊎◌, ⊤, true, false, ℕ, List, Option, Some, None, Result, Ok, Err, IfErr, IfOk, IfSome, IsUtf8}
use Rattle.std.specs.Str.{valid_up_to, IsValidUpTo}
use Rattle.toml.specs.Data.{Data, Members, table, members_depth, members_have_valid_dates}
use Rattle.toml.specs.Errors.{IsWithin}
use Rattle.toml.specs.Parse.{parse_document}
use Rattle.toml.specs.Text.{IsDocumentText}
use Rattle.toml.specs.View.{view}
use Rattle.toml.specs.declared.de.error.Error as reading
use Rattle.toml.specs.declared.value.Value.{Value}
use Rattle.subst_error.specs.Fault.{Fault}
use Rattle.subst_error.specs.ErrorFault.{error_fault}
use Rattle.subst_language.specs.Calls.Clauses.{AnswersText}
use Rattle.subst_language.specs.Language.Answer.{Answer}
use Rattle.subst_language.specs.Language.Several.{GivesBy, RefusesFirst}
use Rattle.subst_toml.specs.Mapped.{strings, IsEach}
use Rattle.subst_toml.specs.declared.error.Error.{Error}
use Rattle.subst_toml.specs.declared.error.Error.TheVariants.{InvalidUtf8, Toml, Subst, OutOfMemory}

-- the reader reads the text as a document, for whose tree P holds
abbrev pub ReadsAsTree : List ℕ → (Data → Type 0) → Type 0
ReadsAsTree text P = (ms : Members) × (parse_document text ≡ Some ms) × P (table ms)

-- `text` is the printed table. If the table has a date that no text can hold, `text` isn't a document.
-- Otherwise `text` is read as the table, unless the table nests too deep.
abbrev pub IsPrinted : Members → List ℕ → Type 0
IsPrinted ms text =
    (members_have_valid_dates ms ≡ false → parse_document text ≡ None)
    × (members_have_valid_dates ms ≡ true → IsDocumentText false ms text)
    × (members_have_valid_dates ms ≡ true → members_depth ms ≤ 80 → parse_document text ≡ Some ms)

-- `result` is a result of filling in the tree d, printing it, and converting the text into a type. `Reads`
-- relates a text to the results of converting it.
abbrev pub IsReadFilledIn : {T : Type 0} → (List ℕ → Answer → Type 0)
    → (List ℕ → Result T reading.Error → Type 0) → Data → Result T reading.Error → Type 0
IsReadFilledIn ask Reads d result = (ms : Members) × IsEach (GivesBy ask) d (table ms)
    × ((text : List ℕ) × IsPrinted ms text × Reads text result)

-- the error is `InvalidUtf8` exactly if the bytes aren't UTF-8, and states the length of the valid prefix
abbrev states_utf8 : List ℕ → Error → Type 0
states_utf8 bytes (InvalidUtf8 e) = ¬ (IsUtf8 bytes) × IsValidUpTo bytes (valid_up_to e)
states_utf8 bytes (Toml e) = IsUtf8 bytes
states_utf8 bytes (Subst e) = IsUtf8 bytes
states_utf8 bytes (OutOfMemory e) = IsUtf8 bytes

abbrev pub StatesUtf8 : {T : Type 0} → List ℕ → Result T Error → Type 0
StatesUtf8 bytes (Ok value) = IsUtf8 bytes
StatesUtf8 bytes (Err e) = states_utf8 bytes e

-- If the error is `Toml`, P holds of its inner error, which is from reading a document or converting a text
-- into a type.
abbrev if_toml : Error → (reading.Error → Type 0) → Type 0
if_toml (InvalidUtf8 e) P = ⊤
if_toml (Toml e) P = P e
if_toml (Subst e) P = ⊤
if_toml (OutOfMemory e) P = ⊤

abbrev pub IfToml : {T : Type 0} → Result T Error → (reading.Error → Type 0) → Type 0
IfToml result P = IfErr result (λ e. if_toml e P)

abbrev pub OnToml : {T : Type 0} → Result T Error → Type 0 → Type 0
OnToml result P = IfToml result (λ _. P)

-- if the error is `Subst`, P holds of the fault of the refused string
abbrev if_subst : Error → (Fault → Type 0) → Type 0
if_subst (InvalidUtf8 e) P = ⊤
if_subst (Toml e) P = ⊤
if_subst (Subst e) P = IfSome (error_fault e) P
if_subst (OutOfMemory e) P = ⊤

abbrev pub OnSubst : {T : Type 0} → Result T Error → (Fault → Type 0) → Type 0
OnSubst result P = IfErr result (λ e. if_subst e P)

-- Contract clauses for calls that read the text s and fill in its tree from a map. The map's answers are
-- those of `AnswersText` with `items`, `see` and `look_up`.

-- a call that succeeds returns the tree of the text s, with its strings filled in
abbrev pub ReturnsTree : {V Seen : Type 0} → (V → List ℕ) → (V → Seen) → (List ℕ → Option Seen) → List ℕ
    → Result Value Error → Type 0
ReturnsTree items see look_up s result = IfOk result
    (λ tree. ReadsAsTree s (λ d. IsEach (GivesBy (AnswersText items see look_up)) d (view tree)))

-- a call that succeeds returns the value into which the filled-in tree of the text s is converted
abbrev pub ReadsType : {V Seen T : Type 0} → (V → List ℕ) → (V → Seen) → (List ℕ → Option Seen)
    → (List ℕ → Result T reading.Error → Type 0) → List ℕ → Result T Error → Type 0
ReadsType items see look_up Reads s result = IfOk result
    (λ value. ReadsAsTree s (λ d. IsReadFilledIn (AnswersText items see look_up) Reads d (Ok value)))

-- the error `Subst` states the fault of the first refused string in the tree of the text s
abbrev pub StatesFirst : {V Seen T : Type 0} → (V → List ℕ) → (V → Seen) → (List ℕ → Option Seen) → List ℕ
    → Result T Error → Type 0
StatesFirst items see look_up s result = OnSubst result
    (λ f. ReadsAsTree s (λ d. RefusesFirst (AnswersText items see look_up) (strings d) f))

-- the inner error of `Toml` is the reader's if s isn't a document; otherwise it is the error of converting
-- the filled-in tree of s
abbrev pub StatesReading : {V Seen T : Type 0} → (V → List ℕ) → (V → Seen) → (List ℕ → Option Seen)
    → (List ℕ → Result T reading.Error → Type 0) → List ℕ → Result T Error → Type 0
StatesReading items see look_up Reads s result = IfToml result
    (λ e. ((parse_document s ≡ None) × IsWithin s e)
    ⊎ ReadsAsTree s (λ d. IsReadFilledIn (AnswersText items see look_up) Reads d (Err e)))
