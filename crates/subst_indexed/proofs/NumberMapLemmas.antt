-- Maps from names to their numbers.
use denote.Ref.{Bor}
use Rattle.std.proofs.Common.{◌≡◌, ℕ, ◌+◌, ◌<◌, Bool, true, false, Option, Some, None, List, [], ◌∷◌, ◌++◌, take, length, get_or, refl, sym, ap, ◌∙◌, subst, arith}
use Rattle.std.proofs.lemmas.List.{length-map, length-take-le, map-append, take_more}
use Rattle.std.proofs.lemmas.Option.{slice_get_within}
use Rattle.std.proofs.lemmas.Slice.Eq.{bytes_eq-Decides}
use Rattle.std.specs.BTreeMap.{BTreeMap}
use Rattle.std.specs.Prelude.{slice_get, if◌then◌else◌}
use Rattle.std.specs.Option.{option_map}
use Rattle.std.specs.Str.{bytes_eq}
use Rattle.subst_indexed.proofs.DistinctLemmas.{distinct_take, name_at}
use Rattle.subst_indexed.proofs.NumberingLemmas.{number_kept, number_of-new}
use Rattle.subst_indexed.specs.Names.{AreDistinct, HasNumbers, name_bytes, number_in}
use Rattle.subst_indexed.specs.Numbering.{number_of}
use Rattle.subst_indexed.specs.declared.names.Name.{Name}

-- the number of another name than one at the end
number_of-other : (names : List (List ℕ)) (added other : List ℕ) → bytes_eq added other ≡ false
    → number_of (names ++ added ∷ []) other ≡ number_of names other
number_of-other [] added other differ = ap (λ found. if found then Some 0 else None) differ
number_of-other (first ∷ names) added other differ =
    ap (λ found. if bytes_eq first other then Some 0 else option_map (λ n. n + 1) found)
    (number_of-other names added other differ)

-- a map has the number of a new name once it is inserted
pub has_numbers-push : (old new : BTreeMap (Bor (List ℕ)) ℕ) (names : List (List ℕ)) (added : List ℕ)
    (number : ℕ) → HasNumbers old names → number_of names added ≡ None → number ≡ length names
    → ((other : List ℕ) → number_in new other
    ≡ (if bytes_eq added other then Some number else number_in old other))
    → HasNumbers new (names ++ added ∷ [])
has_numbers-push old new names added number has none next inserted =
    λ other. inserted other ∙ of other (bytes_eq added other) refl
  where
    of : (other : List ℕ) (b : Bool) → bytes_eq added other ≡ b
        → (if b then Some number else number_in old other) ≡ number_of (names ++ added ∷ []) other
    of other true same =
        ap (λ n. Some n) next
        ∙ subst (λ (it : List ℕ). Some (length names) ≡ number_of (names ++ added ∷ []) it)
        ((bytes_eq-Decides added other).0 same) (sym (number_of-new names added none))
    of other false differ = has other ∙ sym (number_of-other names added other differ)

-- the last of a list is after the others
last_at : (xs : List (List ℕ)) (x : List ℕ) → slice_get (xs ++ x ∷ []) (length xs) ≡ Some x
last_at [] x = refl
last_at (first ∷ xs) x = last_at xs x

-- the last of distinct names isn't among the others
last_is_new : (names : List (List ℕ)) (last : List ℕ) → AreDistinct (names ++ last ∷ [])
    → number_of names last ≡ None
last_is_new names last distinct = of (number_of names last) refl
  where
    of : (found : Option ℕ) → number_of names last ≡ found → found ≡ None
    of (Some number) is =
        let kept = number_kept names (last ∷ []) last number is in
        let own = distinct (length names) last (last_at names last) in
        let same : number ≡ length names = cc in
        let below : number < length names =
        slice_get_within names number last (name_at names last number is) in
        absurd (omega (arith, same, below))
    of None is = refl

module _ (names : List Name) (i : ℕ) (d : Name) (below : i < length names) where
  taken : name_bytes (take (i + 1) names) ≡ name_bytes (take i names) ++ (get_or names i d).bytes.now ∷ []
  taken =
      ap name_bytes (take_more names i d below)
      ∙ map-append (λ (name : Name). name.bytes.now) (take i names) (get_or names i d ∷ [])

  -- a map has the numbers of one more of the first names once the next one is inserted
  pub has_numbers-take : (old new : BTreeMap (Bor (List ℕ)) ℕ) (number : ℕ) → AreDistinct (name_bytes names)
      → HasNumbers old (name_bytes (take i names)) → number ≡ i
      → ((other : List ℕ) → number_in new other
      ≡ (if bytes_eq (get_or names i d).bytes.now other then Some number else number_in old other))
      → HasNumbers new (name_bytes (take (i + 1) names))
  has_numbers-take old new number distinct has next inserted =
      let before = name_bytes (take i names) in
      let last = (get_or names i d).bytes.now in
      let new_one : number_of before last ≡ None =
      last_is_new before last (subst AreDistinct taken (distinct_take names (i + 1) distinct))
      in
      let count : number ≡ length before =
      next ∙ sym (length-map (take i names) (λ (name : Name). name.bytes.now)
      ∙ length-take-le i names (omega (arith, below)))
      in
      subst (HasNumbers new) (sym taken) (has_numbers-push old new before last number has new_one count inserted)
