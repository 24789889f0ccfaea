-- Refused strings, and the steps to them.
use Rattle.std.proofs.Common.{rules, ◌≡◌, List, [], ◌∷◌, ◌++◌, map, reverse, ℕ, Option, MatchOption, IsSomeAnd, inl, inr, sym, ap, subst}
use Rattle.std.proofs.lemmas.List.{map-append, reverse-append}
use Rattle.std.proofs.lemmas.List.Elements.{All-from_recursion}
use Rattle.std.specs.List.{All, AllByRecursion}
use Rattle.subst_error.specs.ErrorFault.{error_fault}
use Rattle.subst_error.specs.declared.Error.{Error}
use Rattle.subst_language.specs.Language.Answer.{Answer, Gives, Refuses}
use Rattle.subst_document.specs.Paths.{Located, Refusal, AreRefusals, step_of}
use Rattle.subst_document.specs.declared.path_step.PathStep as steps

-- `ask` is the relation of a string and its answers
module _ (ask : List ℕ → Answer → Type 0) where
  -- the result of a call that returns the error of a string
  abbrev pub IsRefusal : List ℕ → Option Error → Type 0
  IsRefusal s refusal = MatchOption refusal ((x : List ℕ) × ask s (Gives x))
      (λ e. IsSomeAnd (error_fault e) (λ f. ask s (Refuses f)))

  -- the refusals of some strings and of more
  pub refusals_append : (strings more : List Located) (found others : List Refusal)
      → AreRefusals ask strings found → AreRefusals ask more others
      → AreRefusals ask (strings ++ more) (found ++ others)
  refusals_append [] more found others h k =
      subst (λ (xs : List Refusal). AreRefusals ask more (xs ++ others)) (sym h) k
  refusals_append (it ∷ strings) more found others (inl h) k =
      inl (h.0, refusals_append strings more found others h.1 k)
  refusals_append (it ∷ strings) more found others (inr (f, rest, refused, is, h)) k =
      let left = refusals_append strings more rest others h k in
      inr (f, rest ++ others, refused, ap (λ xs. xs ++ others) is, left)

-- one more step, before the others, which are kept in reverse
pub pushed_step : (kept : List steps.PathStep) (step : steps.PathStep)
    → reverse (map step_of (kept ++ step ∷ [])) ≡ step_of step ∷ reverse (map step_of kept)
pushed_step kept step = search (rules, map-append, step_of, reverse-append)

-- a property of each element of a mapped list holds of the image of each element
pub holds_of_all : {X Y : Type 0} (f : X → Y) (P : Y → Type 0) (xs : List X) → AllByRecursion P (map f xs)
    → All (λ x. P (f x)) xs
holds_of_all {X} f P xs h = All-from_recursion (λ x. P (f x)) xs (each xs h)
  where
    each : (xs : List X) → AllByRecursion P (map f xs) → AllByRecursion (λ x. P (f x)) xs
    each [] h = tt
    each (x ∷ xs) h = (h.0, each xs h.1)
