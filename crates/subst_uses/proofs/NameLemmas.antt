-- Properties of each of several names.
use Rattle.std.proofs.Common.{◌≡◌, ◌↔◌, ℕ, zero, suc, ◌+◌, ◌<◌, List, [], ◌∷◌, map, get_or, length, refl, sym, subst, arith}
use Rattle.std.proofs.Math.Decide.{ℕ_discrete}
use Rattle.std.proofs.lemmas.List.{get_or-map, length-map}
use Rattle.std.specs.List.{All}

-- a property of each element's image holds for each element of the mapped list
pub all_mapped : {X Y : Type 0} (P : Y → Type 0) (f : X → Y) (xs : List X) → All (λ x. P (f x)) xs
    → All P (map f xs)
all_mapped P f [] each k d inside = absurd (omega arith)
all_mapped P f (x ∷ xs) each zero d inside = each 0 x (omega arith)
all_mapped P f (x ∷ xs) each (suc k) d inside =
    all_mapped P f xs (λ j e l. each (suc j) e (omega arith)) k d (omega arith)

-- a property of each element of the mapped list holds for each element's image
all_unmapped : {X Y : Type 0} (P : Y → Type 0) (f : X → Y) (xs : List X) → All P (map f xs)
    → All (λ x. P (f x)) xs
all_unmapped P f xs each k d inside =
    subst P (get_or-map f xs k d (f d) inside) (each k (f d) (omega (arith, length-map xs f)))

-- a property of each element, mapped twice, holds for each element of the list that is mapped twice
pub all_mapped_twice : {X Y Z : Type 0} (P : Z → Type 0) (f : X → Y) (g : Y → Z) (xs : List X) (ys : List Y)
    (zs : List Z) → map f xs ≡ ys → map g ys ≡ zs → All (λ x. P (g (f x))) xs ↔ All P zs
all_mapped_twice P f g xs ys zs once twice = (
  λ each. subst (All P) twice
      (all_mapped P g ys (subst (All (λ y. P (g y))) once (all_mapped (λ y. P (g y)) f xs each))),
  λ each. all_unmapped (λ y. P (g y)) f xs
      (subst (All (λ y. P (g y))) (sym once) (all_unmapped P g ys (subst (All P) (sym twice) each))),
)

-- an element within a list is the same for any default
same_element : {X : Type 0} (xs : List X) (i : ℕ) (d e : X) → i < length xs → get_or xs i d ≡ get_or xs i e
same_element [] i d e inside = absurd (omega arith)
same_element (x ∷ xs) zero d e inside = refl
same_element (x ∷ xs) (suc i) d e inside = same_element xs i d e (omega arith)

-- a property of the elements below an index, and of that at it, holds for those below the next index
pub one_more : {X : Type 0} (P : X → Type 0) (xs : List X) (i : ℕ) (e : X) → i < length xs
    → ((k : ℕ) (d : X) → k < i → P (get_or xs k d)) → P (get_or xs i e)
    → (k : ℕ) (d : X) → k < i + 1 → P (get_or xs k d)
one_more {X} P xs i e inside before here k d below = of (ℕ_discrete k i)
  where
    of : Dec (k ≡ i) → P (get_or xs k d)
    of (yes is) =
        subst (λ (j : ℕ). P (get_or xs j d)) (sym is) (subst P (same_element xs i e d inside) here)
    of (no other) = before k d (omega arith)
