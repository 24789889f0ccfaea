-- The outcomes of expanding cells.
use Rattle.std.specs.Prelude.{◌≡◌, ℕ, ◌+◌, ◌<◌, List, length, Result, Ok, Err, OnOk}
use Rattle.subst_indexed.specs.Expansion.{Expansion, Gives, Lacks, Breaks, Values}
use Rattle.subst_indexed.specs.Template.{template_expansion, template_written}
use Rattle.subst_indexed.specs.Output.{Puts}
use Rattle.subst_indexed.specs.declared.cell.Cell.{Cell}
use Rattle.subst_indexed.specs.declared.walk.Stop.{Stop}
use Rattle.subst_indexed.specs.declared.walk.Stop.TheVariants.{Full, Missing, Asks, NotATemplate}

-- The result of a call states the expansion e. If e is bytes, P holds of what the call returns and of the
-- bytes. The call stops at a value that hasn't been asked for, of whose number `is_unasked` holds. An output
-- that is too small states nothing of e.
abbrev pub IsOutcome : {T : Type 0} → (is_unasked : ℕ → Type 0) → Expansion → Result T Stop
    → (T → List ℕ → Type 0) → Type 0
IsOutcome is_unasked e (Ok done) P = (x : List ℕ) × (e ≡ Gives x) × P done x
IsOutcome is_unasked e (Err (Missing name)) P = e ≡ Lacks name
IsOutcome is_unasked e (Err (Asks number)) P = is_unasked number
IsOutcome is_unasked e (Err NotATemplate) P = e ≡ Breaks
IsOutcome is_unasked e (Err (Full failed)) P = Unit {0}

-- P holds if the result is that the output is too small
abbrev pub IfFull : {T : Type 0} → Result T Stop → Type 0 → Type 0
IfFull (Err (Full failed)) P = P
IfFull result P = Unit {0}

-- The outcome of appending what the cells expand to to an output, whose states are `before` and `now`.
-- `Agrees` holds of the values that agree with what is known. Whatever the outcome, some bytes were appended.
pub record AppendsTemplate {W First : Type 0} (holds : W → First → List ℕ → Type 0) (len capacity : W → ℕ)
    (is_unasked : ℕ → Type 0) (Agrees : Values → Type 0) (cells : List Cell) (s : List ℕ)
    (result : Result (Unit {0}) Stop) (before now : W) : Type 0 where
  pub bytes : List ℕ
  pub puts : Puts holds before bytes now
  pub long : OnOk result (len now ≡ len before + length bytes)
  pub outcome : (values : Values) → Agrees values
      → IsOutcome is_unasked (template_expansion cells s values) result (λ done x. x ≡ bytes)
  pub full : (values : Values) → Agrees values
      → IfFull result (capacity before < len before + length (template_written cells s values))
