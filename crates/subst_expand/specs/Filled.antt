-- The output of an expansion with a map whose values aren't stated in any contract. Contracts first state the
-- output as if each value were a single byte, the mark. In the real output, marks are replaced by bytes of
-- which the reader's `is_read` holds. The source may also have the mark's byte, which then stays.
use Rattle.std.specs.Prelude.{◌≡◌, ℕ, List, [], ◌∷◌, ◌++◌, Option}
use Rattle.subst_language.specs.Calls.VariableMap.{look_up_of}
use Rattle.subst_language.specs.Language.LookUp.{LookUp}
use Rattle.subst_language.specs.Language.Value.{Value, Bytes}

-- the byte that stands for every value if no contract states the values; any ASCII byte would do
abbrev pub mark : ℕ
mark = 0

-- the look-up with values for the same names as `look_up`, in which each value is a single mark
abbrev pub marks_of : {Seen : Type 0} → (List ℕ → Option Seen) → LookUp
marks_of look_up = look_up_of (λ _. mark ∷ []) look_up

-- the second text is the first, with some of its marks replaced by bytes of which Passes holds
pub data IsFilled (Passes : List ℕ → Type 0) : List ℕ → List ℕ → Type 0 where
  empty : IsFilled Passes [] []
  kept : (b : ℕ) {x y : List ℕ} → IsFilled Passes x y → IsFilled Passes (b ∷ x) (b ∷ y)
  filled : {x y : List ℕ} (v : List ℕ) → Passes v → IsFilled Passes x y → IsFilled Passes (mark ∷ x) (v ++ y)

-- the value v is bytes, and `output` is v with some marks replaced by bytes of which Passes holds
pub record FillsMarks (Passes : List ℕ → Type 0) (v : Value) (output : List ℕ) : Type 0 where
  pub marked : List ℕ
  pub given : v ≡ Bytes marked
  pub filled : IsFilled Passes marked output
