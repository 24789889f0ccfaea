-- Paths into a tree, and the refusals of strings with their paths.
use Rattle.std.specs.Prelude.{◌≡◌, ◌⊎◌, ℕ, List, [], ◌∷◌, Option, Some, string_bytes}
use Rattle.subst_error.specs.Fault.{Fault}
use Rattle.subst_language.specs.Language.Answer.{Answer, Gives, Refuses}
use Rattle.subst_document.specs.declared.path_step.PathStep as steps
use Rattle.subst_document.specs.declared.path_step.PathStep.TheVariants as variants

-- a step to the value under a key, or to the item at an index
pub data PathStep : Type 0 where
  Key : List ℕ → PathStep
  Index : ℕ → PathStep

-- a path step, converted from the type in the code to the type of these definitions
abbrev pub step_of : steps.PathStep → PathStep
step_of (variants.Key key) = Key (string_bytes key)
step_of (variants.Index index) = Index index

-- a string of a tree, with its path
pub record Located : Type 0 where
  pub path : List PathStep
  pub text : List ℕ

-- a refused string, with its path and its fault; in `AreRefusals` the fault is never `None`
pub record Refusal : Type 0 where
  pub path : List PathStep
  pub text : List ℕ
  pub fault : Option Fault

-- The refusals of those strings that are refused, in order. The others have outputs. `ask` is the relation of
-- a string and its answers.
abbrev pub AreRefusals : (List ℕ → Answer → Type 0) → List Located → List Refusal → Type 0
AreRefusals ask [] refusals = refusals ≡ []
AreRefusals ask (it ∷ rest) refusals =
    (((x : List ℕ) × ask it.text (Gives x)) × AreRefusals ask rest refusals)
    ⊎ ((f : Fault) × (more : List Refusal) × ask it.text (Refuses f)
    × (refusals ≡ record { path = it.path; text = it.text; fault = Some f } ∷ more)
    × AreRefusals ask rest more)
