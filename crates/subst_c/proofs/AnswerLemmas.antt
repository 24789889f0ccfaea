-- The fault, the text and the highlighting of an answer, from those of an error.
use Rattle.std.proofs.Common.{◌≡◌, ◌≢◌, ℕ, ◌+◌, ◌-◌, List, length, Option, Some, None, IfSome, Result, Ok, Err, IfOk, String, string_bytes, refl, subst, ap, arith}
use Rattle.std.specs.Global.{Global}
use Rattle.std.specs.Option.{option_map}
use Rattle.std.specs.declared.alloc.AllocError.{AllocError}
use Rattle.subst_language.specs.Language.Answer.{Answer, Refuses}
use Rattle.subst_error.specs.Display.{IsDisplayOfError, IsDisplayOfFault}
use Rattle.subst_error.specs.ErrorFault.{error_fault}
use Rattle.subst_error.specs.Fault.{Fault, NoSuchVariable}
use Rattle.subst_error.specs.Highlighting.{highlighting_of}
use Rattle.subst_error.specs.declared.Error.{Error}
use Rattle.subst_error.specs.declared.Error.TheVariants.{OutOfMemory}
use Rattle.subst_c.specs.Fault.{IsRecordOf}
use Rattle.subst_c.specs.Text.{IsFaultTextOf, IsHighlighting}
use Rattle.subst_c.specs.declared.fault.FaultRecord.{FaultRecord}

-- the record of an error's fault is that of a fault with a property, if the error's fault has it
pub record_of_refusal : (stated : Option Fault) (IsSuch : Fault → Type 0) (told : FaultRecord)
    → IfSome stated IsSuch → IsRecordOf (λ f. stated ≡ Some f) told → IsRecordOf IsSuch told
record_of_refusal stated IsSuch told such (f, states, is) = (f, subst (λ o. IfSome o IsSuch) states such, is)

-- a missing variable has the length of its name in bytes
pub record_of_missing : (stated : Option Fault) (position : ℕ) (name : List ℕ)
    → stated ≡ Some (NoSuchVariable position name) → IsRecordOf (λ f. stated ≡ Some f) (record {
      kind = 5;
      position = position;
      length = length name;
    })
record_of_missing stated position name is =
    let len : length name ≡ position + length name - position = omega arith in
    (NoSuchVariable position name, is, ap (λ n. record { kind = 5; position = position; length = n }) len)

-- the refusal for an error's fault is an answer
pub refused_for : (e : Option Fault) (IsAnswer : Answer → Type 0) → IfSome (option_map Refuses e) IsAnswer
    → IfSome e (λ f. IsAnswer (Refuses f))
refused_for None IsAnswer h = tt
refused_for (Some f) IsAnswer h = h

-- an error that isn't out of memory has a fault
states_a_fault : (e : Error) → ((x : AllocError) → ¬ (e ≡ OutOfMemory x)) → error_fault e ≢ None
states_a_fault (OutOfMemory x) other none = other x refl
states_a_fault _ other none = cc

-- the text of an error with a fault is that of the fault
of_a_fault : (e : Option Fault) (IsAnswer : Answer → Type 0) (text : List ℕ) → e ≢ None
    → IfSome (option_map Refuses e) IsAnswer → IsDisplayOfError e text
    → IsFaultTextOf IsAnswer IsDisplayOfFault text
of_a_fault (Some f) IsAnswer text some answer shown = (Refuses f, answer, shown)
of_a_fault None IsAnswer text some answer shown = absurd (some refl)

-- the text of an error that isn't out of memory is that of the answer
pub text_of_error : {E : Type 0} (e : Error) (IsAnswer : Answer → Type 0) (r : Result (String Global) E)
    → ((x : AllocError) → ¬ (e ≡ OutOfMemory x)) → IfSome (option_map Refuses (error_fault e)) IsAnswer
    → IfOk r (λ text. IsDisplayOfError (error_fault e) (string_bytes text))
    → IfOk r (λ text. IsFaultTextOf IsAnswer IsDisplayOfFault (string_bytes text))
text_of_error e IsAnswer (Ok text) other refused shown =
    of_a_fault (error_fault e) IsAnswer (string_bytes text) (states_a_fault e other) refused shown
text_of_error e IsAnswer (Err x) other refused shown = tt

-- the highlighting of an error with a fault is that of the fault
highlights_a_fault : (e : Option Fault) (IsAnswer : Answer → Type 0) (s text : List ℕ) → e ≢ None
    → IfSome (option_map Refuses e) IsAnswer → text ≡ highlighting_of e s
    → IsFaultTextOf IsAnswer (IsHighlighting s) text
highlights_a_fault (Some f) IsAnswer s text some answer shown = (Refuses f, answer, shown)
highlights_a_fault None IsAnswer s text some answer shown = absurd (some refl)

-- the highlighting of an error that isn't out of memory is that of the answer
pub highlighting_of_error : {E : Type 0} (e : Error) (IsAnswer : Answer → Type 0) (s : List ℕ)
    (r : Result (String Global) E) → ((x : AllocError) → ¬ (e ≡ OutOfMemory x))
    → IfSome (option_map Refuses (error_fault e)) IsAnswer
    → IfOk r (λ text. string_bytes text ≡ highlighting_of (error_fault e) s)
    → IfOk r (λ text. IsFaultTextOf IsAnswer (IsHighlighting s) (string_bytes text))
highlighting_of_error e IsAnswer s (Ok text) other refused shown =
    highlights_a_fault (error_fault e) IsAnswer s (string_bytes text) (states_a_fault e other) refused shown
highlighting_of_error e IsAnswer s (Err x) other refused shown = tt
