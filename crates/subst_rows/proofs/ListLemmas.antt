-- Elements of lists, options and tests.
use Rattle.std.proofs.Common.{◌≡◌, ℕ, ◌+◌, ◌<◌, ◌≤◌, Bool, true, false, Some, None, List, [], ◌∷◌, ◌++◌, take, length, length-append, get_or, refl, sym, ap, ◌∙◌, arith, inl, inr, ◌⊎◌}
use Rattle.std.proofs.lemmas.List.{get_or_append_left, get_or_push, take_all, take_more}
use Rattle.std.proofs.lemmas.Option.{get_or_from_slice_get, slice_get-get_or, slice_get_within, slice_get_cases}
use Rattle.std.specs.Prelude.{slice_get}

pub some_injective : {X : Type 0} {x y : X} → Some x ≡ Some y → x ≡ y
some_injective same = cc

-- the elements before the last one, and the last one
pub slice_get-before : {X : Type 0} (xs : List X) (x : X) (k : ℕ) → k < length xs
    → slice_get (xs ++ x ∷ []) k ≡ slice_get xs k
slice_get-before xs x k below =
    slice_get-get_or (xs ++ x ∷ []) k x (omega (arith, length-append xs (x ∷ [])))
    ∙ ap (λ y. Some y) (get_or_append_left xs (x ∷ []) x k below) ∙ sym (slice_get-get_or xs k x below)

pub slice_get-last : {X : Type 0} (xs : List X) (x : X) (k : ℕ) → length xs ≡ k
    → slice_get (xs ++ x ∷ []) k ≡ Some x
slice_get-last xs x k is =
    slice_get-get_or (xs ++ x ∷ []) k x (omega (arith, length-append xs (x ∷ [])))
    ∙ ap (λ y. Some y) (get_or_push xs x x k is)

-- one more element
pub take_given : {X : Type 0} (xs : List X) (n : ℕ) (x : X) → Some x ≡ slice_get xs n
    → take (n + 1) xs ≡ take n xs ++ x ∷ []
take_given xs n x is =
    take_more xs n x (slice_get_within xs n x (sym is))
    ∙ ap (λ y. take n xs ++ y ∷ []) (get_or_from_slice_get xs n x x (sym is))

-- no more elements
pub take_past : {X : Type 0} (xs : List X) (n : ℕ) → None ≡ slice_get xs n → take n xs ≡ xs
take_past {X} xs n is = of (slice_get_cases xs n).1
  where
    of : ((x : X) × (n < length xs) × (slice_get xs n ≡ Some x) × (get_or xs n x ≡ x))
        ⊎ ((length xs ≤ n) × (slice_get xs n ≡ None)) → take n xs ≡ xs
    of (inl (x, below, found, same)) = absurd cc
    of (inr (past, none)) = take_all n xs past

-- a test that doesn't hold
pub not_true : (b : Bool) → ¬ (b ≡ true) → b ≡ false
not_true true no_way = absurd (no_way refl)
not_true false no_way = refl
