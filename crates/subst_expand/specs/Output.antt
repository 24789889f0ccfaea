-- Appending to an output.
use Rattle.std.specs.Prelude.{◌≡◌, ℕ, List, ◌++◌, Option, Some, None, Result, Err}
use Rattle.subst_error.specs.Fault.{Fault, NoSuchVariable}
use Rattle.subst_language.specs.Language.Value.{Value}
use Rattle.subst_expand.specs.Filled.{FillsMarks}
use Rattle.subst_language.specs.Parts.Span.{span_bytes}
use Rattle.subst_expand.specs.declared.expand.Stop.{Stop}
use Rattle.subst_expand.specs.declared.expand.Stop.TheVariants.{Full}
use Rattle.subst_expand.specs.declared.expand.Stop.TheVariants as stop
use Rattle.subst_language.specs.declared.part.Span.{Span}

-- whatever an output held, the bytes `more` were appended to it; its states are `before` and `after`
abbrev pub Puts : {W First : Type 0} → (W → First → List ℕ → Type 0) → W → List ℕ → W → Type 0
Puts {W} {First} holds before more after =
    (first : First) → (x : List ℕ) → holds before first x → holds after first (x ++ more)

-- bytes of which P holds were appended to the output
pub record Appended {W First : Type 0} (holds : W → First → List ℕ → Type 0) (P : List ℕ → Type 0)
    (before after : W) : Type 0 where
  pub appended : List ℕ
  pub puts : Puts holds before appended after
  pub given : P appended

-- if the result is that a variable is missing, P holds of the span of its name
abbrev pub IfMissing : Result (Unit {0}) Stop → (Span → Type 0) → Type 0
IfMissing (Err (stop.Missing name)) P = P name
IfMissing result P = Unit {0}

-- the bytes of the value v, with some marks replaced by bytes of which Passes holds, were appended to
-- `before`
abbrev pub AppendsFilled : (List ℕ → Type 0) → Value → (before after : List ℕ) → Type 0
AppendsFilled Passes v before after = (x : List ℕ) × FillsMarks Passes v x × (after ≡ before ++ x)

-- the fault for which an expansion of the source s stopped, or `None` if the output was full
abbrev pub fault_of : Stop → List ℕ → Option Fault
fault_of (Full e) s = None
fault_of (stop.Missing name) s = Some (NoSuchVariable name.start (span_bytes name s))
