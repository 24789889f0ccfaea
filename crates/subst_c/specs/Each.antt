-- The outputs of a source with several rows of pairs.
use Rattle.std.specs.Prelude.{◌≡◌, ◌⊎◌, ℕ, ◌+◌, List, [], ◌∷◌, length}
use Rattle.std.specs.List.{concat}
use Rattle.subst_error.specs.Fault.{Fault}
use Rattle.subst_language.specs.Language.Answer.{Answer, Answers}
use Rattle.subst_language.specs.Language.BadItem.{HasFault}
use Rattle.subst_language.specs.Language.Sentence.{IsSentence}
use Rattle.subst_language.specs.Language.Several.{EachGives, RefusesAt}
use Rattle.subst_c.specs.Pairs.{pair_value}
use Rattle.subst_c.specs.declared.pairs.Row.{Row}

-- the answers of the source with a row of pairs
abbrev pub under_row : List ℕ → Row → Answer → Type 0
under_row s row = Answers s (pair_value row.pairs.now)

-- the position at which each output ends; the first begins at the position n, and each later one where the
-- one before it ends
abbrev pub ends_from : ℕ → List (List ℕ) → List ℕ
ends_from n [] = []
ends_from n (output ∷ outputs) = (n + length output) ∷ ends_from (n + length output) outputs

-- The concatenated outputs of the source s with `rows` are `bytes`, and `ends` has the position at which each
-- output ends. Even if `rows` is empty, s is a sentence
pub record AreOutputs (s : List ℕ) (rows : List Row) (bytes ends : List ℕ) : Type 0 where
  pub sentence : IsSentence s
  pub outputs : List (List ℕ)
  pub given : EachGives (under_row s) rows outputs
  pub joined : bytes ≡ concat outputs
  pub ended : ends ≡ ends_from 0 outputs

-- Either s is no sentence, f is its fault, and the index i is 0. Or i is the index of the first row with
-- which s is refused, and f is the fault of that refusal.
abbrev pub IsRefusedIn : List ℕ → List Row → ℕ → Fault → Type 0
IsRefusedIn s rows i f = (HasFault 0 s f × (i ≡ 0)) ⊎ RefusesAt (under_row s) rows i f
