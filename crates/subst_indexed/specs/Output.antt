-- Appending to an output.
use Rattle.std.specs.Prelude.{ℕ, List, ◌++◌}

-- whatever an output held, the bytes `more` were appended to it; its states are `before` and `after`
abbrev pub Puts : {W First : Type 0} → (W → First → List ℕ → Type 0) → W → List ℕ → W → Type 0
Puts {W} {First} holds before more after =
    (first : First) → (x : List ℕ) → holds before first x → holds after first (x ++ more)
