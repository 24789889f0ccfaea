-- The outcome of a call, unless memory runs out. An error without a fault means that memory ran out.
-- `bytes_of` is the function from an output, a `Vec` or a `String`, to its bytes.
use Rattle.std.specs.Prelude.{◌≡◌, ◌≤◌, ℕ, List, ◌++◌, drop, length, Option, Some, None, Result, Ok, Err, IfErr, IfNone, IfSome}
use Rattle.std.specs.Option.{option_map}
use Rattle.subst_error.specs.Fault.{Fault}
use Rattle.subst_error.specs.ErrorFault.{error_fault, expand_fault, expand_into_fault, substitute_into_fault}
use Rattle.subst_error.specs.declared.Error.{Error}
use Rattle.subst_error.specs.declared.ExpandError.{ExpandError}
use Rattle.subst_error.specs.declared.ParseError.{ParseError}
use Rattle.subst_error.specs.declared.borrowed.ExpandIntoError.{ExpandIntoError}
use Rattle.subst_error.specs.declared.borrowed.SubstituteIntoError.{SubstituteIntoError}
use Rattle.subst_error.specs.declared.borrowed.SubstituteIntoError.TheVariants.{Parse, Expand}
use Rattle.subst_language.specs.Language.Value.{Value, Bytes}
use Rattle.subst_language.specs.Language.LookUp.{LookUp}
use Rattle.subst_language.specs.Language.Answer.{Answer, Answers, Gives, Refuses, IsMissing}

-- if the result is an error e that states a fault, P holds of that fault, which is `fault_of e`
abbrev pub OnFault : {T E : Type 0} → (E → Option Fault) → Result T E → (Fault → Type 0) → Type 0
OnFault fault_of result P = IfErr result (λ e. IfSome (fault_of e) P)

-- P holds if the result is an error that states no fault, that is, if memory ran out
abbrev pub OnOutOfMemory : {T E : Type 0} → (E → Option Fault) → Result T E → Type 0 → Type 0
OnOutOfMemory fault_of result P = IfErr result (λ e. IfNone (fault_of e) P)

-- the output of an expansion is the bytes of the value v; if v is a missing variable instead, the expansion's
-- error states it
abbrev pub Expands : {T : Type 0} → (T → List ℕ) → Result T ExpandError → Value → Type 0
Expands bytes_of (Ok output) v = v ≡ Bytes (bytes_of output)
Expands bytes_of (Err e) v = IfSome (expand_fault e) (IsMissing v)

-- The call appends the bytes of the value v to a buffer, whose bytes thereby change from `before` to `after`.
-- If v is a missing variable instead, the error states it.
abbrev pub ExpandsInto : {T : Type 0} → (before : List ℕ) → Result T ExpandIntoError → (after : List ℕ)
    → Value → Type 0
ExpandsInto before (Ok done) after v = (x : List ℕ) × (v ≡ Bytes x) × (after ≡ before ++ x)
ExpandsInto before (Err e) after v = IfSome (expand_into_fault e) (IsMissing v)

-- The result is `needed`, the number of bytes of the value v. The call changes a slice's bytes from `before`
-- to `after`: if the slice is long enough, it then begins with the bytes of v, and its rest is unchanged. If
-- v is a missing variable instead, the error states it.
abbrev pub ExpandsIntoSlice : (before : List ℕ) → Result ℕ ExpandIntoError → (after : List ℕ) → Value → Type 0
ExpandsIntoSlice before (Ok needed) after v =
    (x : List ℕ) × (v ≡ Bytes x) × (needed ≡ length x)
    × (needed ≤ length before → after ≡ x ++ drop needed before)
ExpandsIntoSlice before (Err e) after v = IfSome (expand_into_fault e) (IsMissing v)

-- the answer of a substitution: the bytes of its output, or the fault of its error; `None` if memory ran out
abbrev pub answer_of : {T : Type 0} → (T → List ℕ) → Result T Error → Option Answer
answer_of bytes_of (Ok output) = Some (Gives (bytes_of output))
answer_of bytes_of (Err e) = option_map Refuses (error_fault e)

-- the refusal of a substitution: the fault of its error; `None` for an output, and if memory ran out
abbrev pub refusal_of : {T : Type 0} → Result T Error → Option Answer
refusal_of (Ok output) = None
refusal_of (Err e) = option_map Refuses (error_fault e)

-- The call appends the output of the source s to a buffer, whose bytes thereby change from `before` to
-- `after`. If s is refused instead, the error states the fault.
abbrev pub SubstitutesInto : {T : Type 0} → (s : List ℕ) → (before : List ℕ) → Result T SubstituteIntoError
    → (after : List ℕ) → LookUp → Type 0
SubstitutesInto s before (Ok done) after look =
    (x : List ℕ) × Answers s look (Gives x) × (after ≡ before ++ x)
SubstitutesInto s before (Err e) after look =
    IfSome (substitute_into_fault e) (λ f. Answers s look (Refuses f))

-- if the result is an error of the parse, P holds of it; if it is an error of the expansion, Q holds of it
abbrev pub IfRefused : {T : Type 0} → Result T SubstituteIntoError → (ParseError → Type 0)
    → (ExpandIntoError → Type 0) → Type 0
IfRefused (Ok done) P Q = Unit {0}
IfRefused (Err (Parse e)) P Q = P e
IfRefused (Err (Expand e)) P Q = Q e
