-- Distinct names, and the buckets that mark them.
use Rattle.std.proofs.Common.{◌≡◌, ◌≢◌, ℕ, zero, suc, ◌+◌, ◌-◌, ◌*◌, ◌<◌, ◌⊎◌, Bool, true, false, inl, inr, Option, Some, None, List, [], ◌∷◌, ◌++◌, take, drop, length, nat_lt, get_or, set, Result, Ok, Err, refl, sym, ap, ◌∙◌, subst, arith}
use Rattle.std.proofs.lemmas.List.{map-append, take-append-drop}
use Rattle.std.proofs.lemmas.Slice.Eq.{bytes_eq-Decides}
use Rattle.std.proofs.lemmas.Bool.Decides.{nat_tests}
use Rattle.std.proofs.lemmas.Nat.{mod_below}
use Rattle.std.proofs.lemmas.Option.{slice_get-map, slice_get_read}
use Rattle.std.specs.Prelude.{is_ok, slice_get, slice_index, if◌then◌else◌}
use Rattle.std.specs.Str.{bytes_eq}
use Rattle.std.specs.Option.{option_map}
use Rattle.subst_indexed.proofs.NumberingLemmas.{number_kept, number_of-new}
use Rattle.subst_indexed.specs.Names.{AreDistinct, AreMarked, bucket_of, name_bytes}
use Rattle.subst_indexed.specs.Numbering.{number_of}
use Rattle.subst_indexed.specs.declared.names.Name.{Name}

one_more : (m n : ℕ) → m + 1 ≡ n → suc m ≡ n
one_more m n next = omega (arith, next)

-- a name is at the index that is its number
pub name_at : (names : List (List ℕ)) (name : List ℕ) (number : ℕ) → number_of names name ≡ Some number
    → slice_get names number ≡ Some name
name_at [] name number is = absurd cc
name_at (first ∷ rest) name number is =
    of (bytes_eq first name) (number_of rest name) ((bytes_eq-Decides first name).0) (name_at rest name) number is
  where
    of : (found : Bool) (other : Option ℕ) → (found ≡ true → first ≡ name)
        → ((n : ℕ) → other ≡ Some n → slice_get rest n ≡ Some name) → (n : ℕ)
        → (if found then Some 0 else option_map (λ m. m + 1) other) ≡ Some n
        → slice_get (first ∷ rest) n ≡ Some name
    of true other same later zero is = ap (λ it. Some it) (same refl)
    of true other same later (suc n) is = absurd cc
    of false (Some m) same later n is =
        let next : m + 1 ≡ n = cc in
        subst (λ k. slice_get (first ∷ rest) k ≡ Some name) (one_more m n next) (later m refl)
    of false None same later n is = absurd cc

-- an unmarked bucket has no names
pub not_marked : (names : List (List ℕ)) (buckets : List ℕ) (name : List ℕ) → AreMarked names buckets
    → slice_index buckets (bucket_of name) ≡ 0 → number_of names name ≡ None
not_marked names buckets name marked none = of (number_of names name) refl
  where
    of : (found : Option ℕ) → number_of names name ≡ found → found ≡ None
    of (Some number) is = absurd (marked number name (name_at names name number is) none)
    of None is = refl

-- a name more at the end
at_push : (names : List (List ℕ)) (added : List ℕ) (index : ℕ) (name : List ℕ)
    → slice_get (names ++ added ∷ []) index ≡ Some name
    → (slice_get names index ≡ Some name) ⊎ ((index ≡ length names) × (added ≡ name))
at_push [] added zero name is = inr (refl, cc)
at_push [] added (suc index) name is = absurd cc
at_push (first ∷ names) added zero name is = inl is
at_push (first ∷ names) added (suc index) name is = elim (at_push names added index name is) [
  | inl before ↦ inl before
  | inr last ↦ inr (omega (arith, last.0), last.1)
]

-- a new name keeps names distinct
pub distinct_push : (names : List (List ℕ)) (added : List ℕ) → AreDistinct names → number_of names added ≡ None
    → AreDistinct (names ++ added ∷ [])
distinct_push names added distinct new = λ index name is. elim (at_push names added index name is) [
  | inl before ↦ number_kept names (added ∷ []) name index (distinct index name before)
  | inr last ↦
      subst (λ (it : List ℕ). number_of (names ++ added ∷ []) it ≡ Some index) last.1
      (number_of-new names added new ∙ ap (λ n. Some n) (sym last.0))
]

-- a mark in a bucket keeps the marks
mark_kept : (buckets : List ℕ) (at k mark : ℕ) → mark ≢ 0 → slice_index buckets k ≢ 0
    → slice_index (set buckets at mark) k ≢ 0
mark_kept [] at k mark some has = has
mark_kept (b ∷ buckets) zero zero mark some has = some
mark_kept (b ∷ buckets) zero (suc k) mark some has = has
mark_kept (b ∷ buckets) (suc at) zero mark some has = has
mark_kept (b ∷ buckets) (suc at) (suc k) mark some has = mark_kept buckets at k mark some has

mark_made : (buckets : List ℕ) (at mark : ℕ) → at < length buckets → mark ≢ 0
    → slice_index (set buckets at mark) at ≢ 0
mark_made [] at mark below some = absurd (omega arith)
mark_made (b ∷ buckets) zero mark below some = some
mark_made (b ∷ buckets) (suc at) mark below some = mark_made buckets at mark (omega arith) some

pub marked_more : (names : List (List ℕ)) (buckets : List ℕ) (at mark : ℕ) → mark ≢ 0 → AreMarked names buckets
    → AreMarked names (set buckets at mark)
marked_more names buckets at mark some marked =
    λ index name is. mark_kept buckets at (bucket_of name) mark some (marked index name is)

-- a name whose bucket has a mark is marked
pub marked_push : (names : List (List ℕ)) (added : List ℕ) (buckets : List ℕ) → AreMarked names buckets
    → slice_index buckets (bucket_of added) ≢ 0 → AreMarked (names ++ added ∷ []) buckets
marked_push names added buckets marked some = λ index name is. elim (at_push names added index name is) [
  | inl before ↦ marked index name before
  | inr last ↦ subst (λ (it : List ℕ). slice_index buckets (bucket_of it) ≢ 0) last.1 some
]

-- each of the names has a number
has_number : (names : List (List ℕ)) (name : List ℕ) (index : ℕ) → slice_get names index ≡ Some name
    → number_of names name ≡ None → ⊥
has_number [] name index is none = cc
has_number (first ∷ rest) name zero is none =
    let same : first ≡ name = cc in
    let found : bytes_eq first name ≡ true = (bytes_eq-Decides first name).1 same in
    of (bytes_eq first name) (number_of rest name) found none
  where
    of : (b : Bool) (other : Option ℕ) → b ≡ true
        → (if b then Some 0 else option_map (λ m. m + 1) other) ≡ None → ⊥
    of true other found none = cc
    of false other found none = cc
has_number (first ∷ rest) name (suc index) is none =
    of (bytes_eq first name) (number_of rest name) (has_number rest name index is) none
  where
    of : (b : Bool) (other : Option ℕ) → (other ≡ None → ⊥)
        → (if b then Some 0 else option_map (λ m. m + 1) other) ≡ None → ⊥
    of true other has none = cc
    of false (Some m) has none = cc
    of false None has none = has refl

-- the element at an index stays there if more are appended
front_at : (xs ys : List (List ℕ)) (index : ℕ) (name : List ℕ) → slice_get xs index ≡ Some name
    → slice_get (xs ++ ys) index ≡ Some name
front_at [] ys index name is = absurd cc
front_at (x ∷ xs) ys zero name is = is
front_at (x ∷ xs) ys (suc index) name is = front_at xs ys index name is

-- the first of distinct names are distinct
pub distinct_front : (xs ys : List (List ℕ)) → AreDistinct (xs ++ ys) → AreDistinct xs
distinct_front xs ys distinct = λ index name is.
    of index name is (distinct index name (front_at xs ys index name is)) (number_of xs name) refl
  where
    of : (index : ℕ) (name : List ℕ) → slice_get xs index ≡ Some name → number_of (xs ++ ys) name ≡ Some index
        → (found : Option ℕ) → number_of xs name ≡ found → number_of xs name ≡ Some index
    of index name is all (Some number) found =
        let more = number_kept xs ys name number found in cc
    of index name is all None found = absurd (has_number xs name index is found)

pub marked_front : (xs ys : List (List ℕ)) (buckets : List ℕ) → AreMarked (xs ++ ys) buckets → AreMarked xs buckets
marked_front xs ys buckets marked = λ index name is. marked index name (front_at xs ys index name is)

cut : (names : List Name) (len : ℕ) → name_bytes names ≡ name_bytes (take len names) ++ name_bytes (drop len names)
cut names len =
    ap name_bytes (sym (take-append-drop len names))
    ∙ map-append (λ (name : Name). name.bytes.now) (take len names) (drop len names)

-- for a list of names that is cut
pub distinct_take : (names : List Name) (len : ℕ) → AreDistinct (name_bytes names)
    → AreDistinct (name_bytes (take len names))
distinct_take names len distinct =
    distinct_front (name_bytes (take len names)) (name_bytes (drop len names))
    (subst AreDistinct (cut names len) distinct)

pub marked_take : (names : List Name) (len : ℕ) (buckets : List ℕ) → AreMarked (name_bytes names) buckets
    → AreMarked (name_bytes (take len names)) buckets
marked_take names len buckets marked =
    marked_front (name_bytes (take len names)) (name_bytes (drop len names)) buckets
    (subst (λ it. AreMarked it buckets) (cut names len) marked)

-- a name that is read at an index, and has these bytes
pub read_name : (list all : List Name) (index : ℕ) (name : Name) (bytes : List ℕ) → all ≡ list
    → true ≡ nat_lt index (length all) → name ≡ get_or all index name → true ≡ bytes_eq name.bytes.now bytes
    → slice_get (name_bytes list) index ≡ Some bytes
read_name list all index name bytes is below read same =
    let inside : index < length all = grind (arith, nat_tests, below) in
    subst (λ it. slice_get (name_bytes it) index ≡ Some bytes) is
    (slice_get-map (λ (n : Name). n.bytes.now) all index
    ∙ ap (option_map (λ (n : Name). n.bytes.now)) (slice_get_read all (length all) index name refl inside read)
    ∙ ap (λ it. Some it) ((bytes_eq-Decides name.bytes.now bytes).0 (sym same)))

-- the bucket is one of all
bucket_below : (name : List ℕ) → bucket_of name < 64
bucket_below name =
    mod_below (length name + slice_index name 0 + 5 * slice_index name (length name - 2)
    + 11 * slice_index name (length name - 1)) 64 (omega arith)

-- the names and their buckets after a name may have been added, whose bucket was marked
pub added_marked : {E : Type 0} (result : Result (Unit {0}) E) (old new : List Name) (added : Name)
    (buckets : List ℕ) (bucket mark : ℕ) → new ≡ (if is_ok result then old ++ added ∷ [] else old)
    → bucket ≡ bucket_of added.bytes.now → length buckets ≡ 64 → mark ≢ 0
    → number_of (name_bytes old) added.bytes.now ≡ None
    → AreDistinct (name_bytes old) → AreMarked (name_bytes old) buckets
    → AreDistinct (name_bytes new) × AreMarked (name_bytes new) (set buckets bucket mark)
added_marked (Ok done) old new added buckets bucket mark is at long some none distinct marked =
    let name = added.bytes.now in
    let all : name_bytes new ≡ name_bytes old ++ name ∷ [] =
    ap name_bytes is ∙ map-append (λ (n : Name). n.bytes.now) old (added ∷ [])
    in
    let made : slice_index (set buckets bucket mark) (bucket_of name) ≢ 0 =
    subst (λ k. slice_index (set buckets bucket mark) k ≢ 0) at
    (mark_made buckets bucket mark (omega (arith, at, long, bucket_below name)) some)
    in (
      subst AreDistinct (sym all) (distinct_push (name_bytes old) name distinct none),
      subst (λ it. AreMarked it (set buckets bucket mark)) (sym all)
          (marked_push (name_bytes old) name (set buckets bucket mark)
          (marked_more (name_bytes old) buckets bucket mark some marked) made),
    )
added_marked (Err e) old new added buckets bucket mark is at long some none distinct marked = (
  subst (λ it. AreDistinct (name_bytes it)) (sym is) distinct,
  subst (λ it. AreMarked (name_bytes it) (set buckets bucket mark)) (sym is)
      (marked_more (name_bytes old) buckets bucket mark some marked),
)
