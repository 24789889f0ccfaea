-- Lists: equal lists, a list at an index, the two ends of a stack, prefixes, and induction by length.
use Rattle.std.proofs.lemmas.Grind.{common_steps}
use Rattle.std.proofs.Common.{◌≡◌, ℕ, zero, suc, ◌+◌, ◌-◌, ◌<◌, ◌≤◌, eqb, true, List, [], ◌∷◌, ◌++◌, length, map, get_or, take, drop, reverse, Option, Some, None, refl, sym, ap, ◌∙◌, subst, append_assoc, length-append, length-drop, arith}
use Rattle.std.proofs.Math.Decide.{ℕ_discrete}
use Rattle.std.proofs.Math.Seq.{take-append_seam}
use Rattle.std.proofs.lemmas.Bool.{eqb-true, false≢true}
use Rattle.std.proofs.lemmas.List.{reverse-append, drop_more, drop_all, drop-drop, take-append-drop}
use Rattle.std.proofs.lemmas.List.Elements.{All-from_recursion}
use Rattle.std.proofs.lemmas.Option.{slice_get_within, get_or_from_slice_get, slice_get-get_or}
use Rattle.std.specs.List.{All, AllByRecursion, slice_get}
use Rattle.std.specs.Option.{MatchOption, option_eq}

-- equal lists have equal first elements
pub first_same : {X : Type 0} {a b : X} {x y : List X} → a ∷ x ≡ b ∷ y → a ≡ b
first_same e = cc

-- equal lists have equal rests after the first elements
pub rest_same : {X : Type 0} {a b : X} {x y : List X} → a ∷ x ≡ b ∷ y → x ≡ y
rest_same e = cc

-- an empty list has no element
pub no_element : {X : Type 0} (a : X) (x y : List X) → ¬ ([] ≡ x ++ a ∷ y)
no_element a [] y e = cc
no_element a (b ∷ x) y e = cc

-- a property of each element of two lists holds of each element of their concatenation
pub each_append : {X : Type 0} (P : X → Type 0) (x y : List X) → AllByRecursion P x → AllByRecursion P y
    → AllByRecursion P (x ++ y)
each_append P [] y h k = k
each_append P (a ∷ x) y h k = (h.0, each_append P x y h.1 k)

-- a property of each element of two lists concatenated holds of each element of both
pub each_parts : {X : Type 0} (P : X → Type 0) (x y : List X) → AllByRecursion P (x ++ y)
    → AllByRecursion P x × AllByRecursion P y
each_parts P [] y h = (tt, h)
each_parts P (a ∷ x) y h = let parts = each_parts P x y h.1 in ((h.0, parts.0), parts.1)

-- a property that follows from one of each element holds of each element
pub each_weaker : {X : Type 0} (P Q : X → Type 0) → ((a : X) → P a → Q a) → (x : List X) → AllByRecursion P x
    → AllByRecursion Q x
each_weaker P Q step [] each = tt
each_weaker P Q step (a ∷ x) each = (step a each.0, each_weaker P Q step x each.1)

-- a property of each element holds of each by recursion
pub each_by_recursion : {X : Type 0} (P : X → Type 0) (x : List X) → All P x → AllByRecursion P x
each_by_recursion P [] each = tt
each_by_recursion P (a ∷ x) each =
    (each 0 a (omega arith), each_by_recursion P x (λ k d h. each (suc k) d (omega arith)))

-- a property of each element of a mapped list holds of the image of each element
mapped_by_recursion : {X Y : Type 0} (f : X → Y) (P : Y → Type 0) (x : List X) → AllByRecursion P (map f x)
    → AllByRecursion (λ a. P (f a)) x
mapped_by_recursion f P [] each = tt
mapped_by_recursion f P (a ∷ x) each = (each.0, mapped_by_recursion f P x each.1)

-- the same, for a list that equals the mapped one
pub each_mapped : {X Y : Type 0} (f : X → Y) (P : Y → Type 0) (x : List X) {y : List Y} → map f x ≡ y
    → AllByRecursion P y → All (λ a. P (f a)) x
each_mapped f P x is each =
    All-from_recursion (λ a. P (f a)) x (mapped_by_recursion f P x (subst (AllByRecursion P) (sym is) each))

-- induction by length, for lists of at most k elements
by_length_within : {X : Type 0} (P : List X → Type 0)
    → ((s : List X) → ((w : List X) → length w < length s → P w) → P s)
    → (k : ℕ) (s : List X) → length s ≤ k → P s
by_length_within P step zero s h = step s (λ w l. absurd (omega arith))
by_length_within P step (suc k) s h = step s (λ w l. by_length_within P step k w (omega arith))

-- induction by length
pub by_length : {X : Type 0} (P : List X → Type 0)
    → ((s : List X) → ((w : List X) → length w < length s → P w) → P s)
    → (s : List X) → P s
by_length P step s = by_length_within P step (length s) s (omega arith)

-- the index of an element is within the list
pub position_inside : {X : Type 0} (s : List X) (at : ℕ) (a : X) (x : List X) → drop at s ≡ a ∷ x
    → at < length s
position_inside s at a x reads = omega (arith, simp length-drop at (ap length reads))

-- after the element at an index comes the rest from the next index
pub next_element : {X : Type 0} (s : List X) (at : ℕ) (a : X) (rest : List X) → drop at s ≡ a ∷ rest
    → drop at s ≡ a ∷ drop (at + 1) s
next_element {X} s at a rest begins =
    begins ∙ ap (λ (x : List X). a ∷ x) (ap (λ (x : List X). drop 1 x) (sym begins) ∙ drop-drop 1 at s)

-- after two elements comes the rest from the index after them
pub next_elements : {X : Type 0} (s : List X) (at : ℕ) (a b : X) → drop at s ≡ a ∷ drop (at + 1) s
    → drop (at + 1) s ≡ b ∷ drop (at + 1 + 1) s
    → drop at s ≡ a ∷ b ∷ drop (at + 2) s
next_elements {X} s at a b first second =
    let same : at + 1 + 1 ≡ at + 2 = omega arith in
    first ∙ ap (λ (x : List X). a ∷ x) (second ∙ ap (λ (k : ℕ). b ∷ drop k s) same)

-- if the number that may be read at an index is the expected one, it is there
pub byte_is : (found : Option ℕ) (here next : List ℕ) (b : ℕ)
    → MatchOption found (here ≡ []) (λ a. here ≡ a ∷ next)
    → option_eq eqb found (Some b) ≡ true → here ≡ b ∷ next
byte_is None here next b reads same = absurd (false≢true same)
byte_is (Some a) here next b reads same = reads ∙ ap (λ (k : ℕ). k ∷ next) (eqb-true a b same)

-- the element is at the index of the list
pub record IsElementAt {X : Type 0} (xs : List X) (at : ℕ) (x : X) : Type 0 where
  pub below : at < length xs
  pub spelled : drop at xs ≡ x ∷ drop (at + 1) xs

-- an element that is read at an index is there
pub element_at : {X : Type 0} {xs : List X} {at : ℕ} {x : X} → slice_get xs at ≡ Some x → IsElementAt xs at x
element_at {X} {xs = xs} {at = at} {x = x} reads =
    let below : at < length xs = slice_get_within xs at x reads in
    record {
      below = below;
      spelled = drop_more xs at x below
          ∙ ap (λ (y : X). y ∷ drop (at + 1) xs) (get_or_from_slice_get xs at x x reads);
    }

-- the list is the part before the element, the element, and the part after it
pub around : {X : Type 0} {xs : List X} {at : ℕ} {x : X} → IsElementAt xs at x
    → take at xs ++ x ∷ drop (at + 1) xs ≡ xs
around {X} {xs = xs} {at = at} here =
    ap (λ (rest : List X). take at xs ++ rest) (sym here.spelled) ∙ take-append-drop at xs

-- a list that has a last element
pub split_last : {X : Type 0} (xs : List X) (x : X) → slice_get xs (length xs - 1) ≡ Some x
    → (front : List X) × (xs ≡ front ++ x ∷ [])
split_last xs x is =
    let n = length xs - 1 in
    let inside : n < length xs = slice_get_within xs n x is in
    let last : get_or xs n x ≡ x = get_or_from_slice_get xs n x x is in
    let none : drop (n + 1) xs ≡ [] = drop_all (n + 1) xs (omega arith) in (
      take n xs,
      sym (take-append-drop n xs)
          ∙ ap (λ rest. take n xs ++ rest) (drop_more xs n x inside ∙ rw (last, none) refl),
    )

-- a list that has a first element
pub split_first : {X : Type 0} (xs : List X) (x : X) → slice_get xs 0 ≡ Some x
    → (rest : List X) × (xs ≡ x ∷ rest)
split_first [] x is = absurd cc
split_first (y ∷ xs) x is = (xs, cc)

-- a list that has no first element is empty
pub no_first : {X : Type 0} (xs : List X) → slice_get xs 0 ≡ None → xs ≡ []
no_first [] is = refl
no_first (y ∷ xs) is = cc

-- a list that has no last element is empty
pub no_last : {X : Type 0} (xs : List X) → slice_get xs (length xs - 1) ≡ None → xs ≡ []
no_last [] is = refl
no_last (y ∷ xs) is = let some = slice_get-get_or (y ∷ xs) (length (y ∷ xs) - 1) y (omega arith) in cc

-- the list that is left after the last element is removed
pub pop_front : {X : Type 0} (popped xs front : List X) (x : X) (n : ℕ) → xs ≡ front ++ x ∷ [] → n ≡ length xs
    → popped ≡ take (n - 1) xs
    → popped ≡ front
pop_front popped xs front x n split count taken = grind (arith, common_steps, length-append, take-append_seam)

-- the last element comes first in reverse
pub reverse_last : {X : Type 0} (front : List X) (x : X) → reverse (front ++ x ∷ []) ≡ x ∷ reverse front
reverse_last front x = reverse-append front (x ∷ [])

-- a list that isn't empty begins with its first element
pub first_byte : (bytes : List ℕ) → 0 < length bytes → (rest : List ℕ) × (bytes ≡ get_or bytes 0 0 ∷ rest)
first_byte [] some = absurd (omega arith)
first_byte (b ∷ rest) some = (rest, refl)

-- the first elements of a list are a prefix of it
pub front_by_take : {X : Type 0} (k : ℕ) (x : List X) {t : List X} → t ≡ take k x
    → (rest : List X) × (x ≡ t ++ rest)
front_by_take {X} k x is =
    (drop k x, sym (take-append-drop k x) ∙ ap (λ (y : List X). y ++ drop k x) (sym is))

-- the first elements of the first elements are a prefix, too
pub front_by_takes : {X : Type 0} (n k : ℕ) (x : List X) {t : List X} → t ≡ take n (take k x)
    → (rest : List X) × (x ≡ t ++ rest)
front_by_takes {X} n k x {t} is =
    let (rest, e) = front_by_take n (take k x) is in (
      rest ++ drop k x,
      sym (take-append-drop k x) ∙ ap (λ (y : List X). y ++ drop k x) e ∙ append_assoc t rest (drop k x),
    )

-- x is a prefix of s
abbrev pub BeginsWith : List ℕ → List ℕ → Type 0
BeginsWith x s = (rest : List ℕ) × (s ≡ x ++ rest)

-- a list of numbers begins with another, or doesn't
pub begins_or_not : (x s : List ℕ) → Dec (BeginsWith x s)
begins_or_not [] s = yes (s, refl)
begins_or_not (a ∷ x) [] = no (λ h. let e = h.1 in cc)
begins_or_not (a ∷ x) (b ∷ s) = of (ℕ_discrete b a) (begins_or_not x s)
  where
    of : Dec (b ≡ a) → Dec (BeginsWith x s) → Dec (BeginsWith (a ∷ x) (b ∷ s))
    of (yes e) (yes h) = yes (h.0, cc (e, h.1))
    of (yes e) (no n) = no (λ h. let t = h.1 in n (h.0, cc))
    of (no n) _ = no (λ h. let t = h.1 in n cc)
