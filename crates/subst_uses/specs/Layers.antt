-- Answers under the variables of an environment, with defaults.
use denote.Ref.{Bor}
use Rattle.std.proofs.Common.{inl, inr}
use Rattle.std.specs.BTreeMap.{BTreeMap, get_by_text}
use Rattle.std.specs.Global.{Global}
use Rattle.std.specs.Prelude.{ℕ, List, String, string_bytes}
use Rattle.subst.specs.Calls.Clauses.{AnswersText}
use Rattle.subst.specs.Calls.Maps.{first_value, layered, of_one}
use Rattle.subst.specs.Language.Answer.{Answer}

-- the answers of a text under an environment, with defaults for the names that the environment doesn't set
abbrev pub answers_of : List (String Global × String Global) → BTreeMap (String Global) (String Global)
    → List ℕ → Answer → Type 0
answers_of environment defaults =
    AnswersText (of_one (λ (v : Bor (List ℕ)). v.now) (λ (v : Bor (String Global)). string_bytes v.now))
    (of_one (λ (v : Bor (List ℕ)). inl v.now) (λ (v : Bor (String Global)). inr v.now))
    (layered (first_value environment) (get_by_text defaults))
