-- The result of a call that reads a tree and fills it in.
use Rattle.std.specs.Prelude.{◌≡◌, ⊤, ℕ, List, Option, Some, Result, Ok, IfErr, IfOk, IfSome}
use Rattle.serde_json.specs.Data.{Data}
use Rattle.serde_json.specs.Read.{read}
use Rattle.serde_json.specs.View.{view}
use Rattle.serde_json.specs.declared.error.Error as reading
use Rattle.serde_json.specs.declared.value.Value.{Value}
use Rattle.subst_error.specs.Fault.{Fault}
use Rattle.subst_error.specs.ErrorFault.{error_fault}
use Rattle.subst_language.specs.Calls.Clauses.{AnswersText}
use Rattle.subst_language.specs.Language.Answer.{Answer}
use Rattle.subst_language.specs.Language.Several.{GivesBy, RefusesFirst}
use Rattle.subst_json.specs.Mapped.{strings, IsEach}
use Rattle.subst_json.specs.declared.error.Error.{Error}
use Rattle.subst_json.specs.declared.error.Error.TheVariants.{Json, Subst, OutOfMemory}

-- the reader reads the text as a tree for which P holds
abbrev pub ReadsAsTree : List ℕ → (Data → Type 0) → Type 0
ReadsAsTree text P = (d : Data) × (read text ≡ Some d) × P d

-- `result` is a result of converting the tree d, with its strings filled in, into a type. `Reads` relates a
-- tree to the results of converting it.
abbrev pub IsReadFilledIn : {T : Type 0} → (List ℕ → Answer → Type 0)
    → (Data → Result T reading.Error → Type 0) → Data
    → Result T reading.Error → Type 0
IsReadFilledIn ask Reads d result = (e : Data) × IsEach (GivesBy ask) d e × Reads e result

-- If the error is `Json`, P holds of its inner error, which is from reading a text or converting a tree into
-- a type.
abbrev if_json : Error → (reading.Error → Type 0) → Type 0
if_json (Json e) P = P e
if_json (Subst e) P = ⊤
if_json (OutOfMemory e) P = ⊤

abbrev pub IfJson : {T : Type 0} → Result T Error → (reading.Error → Type 0) → Type 0
IfJson result P = IfErr result (λ e. if_json e P)

abbrev pub OnJson : {T : Type 0} → Result T Error → Type 0 → Type 0
OnJson result P = IfJson result (λ _. P)

-- if the error is `Subst`, P holds of the fault of the refused string
abbrev if_subst : Error → (Fault → Type 0) → Type 0
if_subst (Json e) P = ⊤
if_subst (Subst e) P = IfSome (error_fault e) P
if_subst (OutOfMemory e) P = ⊤

abbrev pub OnSubst : {T : Type 0} → Result T Error → (Fault → Type 0) → Type 0
OnSubst result P = IfErr result (λ e. if_subst e P)

-- Clauses of calls that read the text s and fill in its tree from a map. The map's answers are those of
-- `AnswersText` with `items`, `see` and `look_up`.

-- a call that succeeds returns the tree of the text s, with its strings filled in
abbrev pub ReturnsTree : {V Seen : Type 0} → (V → List ℕ) → (V → Seen) → (List ℕ → Option Seen) → List ℕ
    → Result Value Error → Type 0
ReturnsTree items see look_up s result = IfOk result
    (λ tree. ReadsAsTree s (λ d. IsEach (GivesBy (AnswersText items see look_up)) d (view tree)))

-- a call that succeeds returns the value into which the filled-in tree of the text s is converted
abbrev pub ReadsType : {V Seen T : Type 0} → (V → List ℕ) → (V → Seen) → (List ℕ → Option Seen)
    → (Data → Result T reading.Error → Type 0) → List ℕ → Result T Error → Type 0
ReadsType items see look_up Reads s result = IfOk result
    (λ value. ReadsAsTree s (λ d. IsReadFilledIn (AnswersText items see look_up) Reads d (Ok value)))

-- the error `Subst` states the fault of the first refused string in the tree of the text s
abbrev pub StatesFirst : {V Seen T : Type 0} → (V → List ℕ) → (V → Seen) → (List ℕ → Option Seen) → List ℕ
    → Result T Error → Type 0
StatesFirst items see look_up s result = OnSubst result
    (λ f. ReadsAsTree s (λ d. RefusesFirst (AnswersText items see look_up) (strings d) f))
