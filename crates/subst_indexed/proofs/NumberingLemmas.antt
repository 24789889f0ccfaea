-- The numbers of names.
use Rattle.std.proofs.Common.{◌≡◌, ℕ, zero, suc, ◌+◌, ◌<◌, Bool, true, false, Option, Some, None, List, [], ◌∷◌, ◌++◌, take, map, length, get_or, Result, Ok, Err, refl, sym, ap, ◌∙◌, subst, arith}
use Rattle.std.proofs.lemmas.List.{length-map, map-append}
use Rattle.std.proofs.lemmas.Slice.Eq.{bytes_eq-Decides}
use Rattle.std.specs.Option.{option_map}
use Rattle.std.specs.Prelude.{IfOk, OnOk, is_some, if◌then◌else◌}
use Rattle.std.specs.Str.{bytes_eq}
use Rattle.subst_indexed.specs.Names.{AddsName, KeepsNumbers, name_bytes, use_of, uses_of}
use Rattle.subst_indexed.specs.Numbering.{FirstUse, names_of, number_of, with_use}
use Rattle.subst_indexed.specs.declared.names.Name.{Name}

-- the number of a name among a first name and others, by the test of the first
abbrev of_test : Bool → Option ℕ → Option ℕ
of_test found rest = if found then Some 0 else option_map (λ n. n + 1) rest

-- a name without a number isn't the first one, and has no number among the others
absent : (found : Bool) (rest : Option ℕ) → of_test found rest ≡ None → (found ≡ false) × (rest ≡ None)
absent true rest none = absurd cc
absent false (Some n) none = absurd cc
absent false None none = (refl, refl)

-- the number of a name that isn't among the first names
pub number_of-append : (xs ys : List (List ℕ)) (name : List ℕ) → number_of xs name ≡ None
    → number_of (xs ++ ys) name ≡ option_map (λ n. length xs + n) (number_of ys name)
number_of-append [] ys name none = same (number_of ys name)
  where
    same : (found : Option ℕ) → found ≡ option_map (λ n. 0 + n) found
    same (Some n) = ap (λ m. Some m) (omega arith)
    same None = refl
number_of-append (x ∷ xs) ys name none =
    let cases = absent (bytes_eq x name) (number_of xs name) none in
    ap (λ found. of_test found (number_of (xs ++ ys) name)) cases.0
    ∙ ap (option_map (λ n. n + 1)) (number_of-append xs ys name cases.1)
    ∙ one_more (number_of ys name)
  where
    one_more : (found : Option ℕ) → option_map (λ n. n + 1) (option_map (λ n. length xs + n) found)
        ≡ option_map (λ n. length (x ∷ xs) + n) found
    one_more (Some n) = ap (λ m. Some m) (omega arith)
    one_more None = refl

-- the number among more names, by the numbers among the others
kept_of : (found : Bool) (rest more : Option ℕ) (number : ℕ) → ((n : ℕ) → rest ≡ Some n → more ≡ Some n)
    → of_test found rest ≡ Some number → of_test found more ≡ Some number
kept_of true rest more number keeps is = is
kept_of false (Some n) more number keeps is = ap (option_map (λ m. m + 1)) (keeps n refl) ∙ is
kept_of false None more number keeps is = absurd cc

-- a name keeps its number if more names follow
pub number_kept : (xs ys : List (List ℕ)) (name : List ℕ) (number : ℕ) → number_of xs name ≡ Some number
    → number_of (xs ++ ys) name ≡ Some number
number_kept [] ys name number is = absurd cc
number_kept (x ∷ xs) ys name number is =
    kept_of (bytes_eq x name) (number_of xs name) (number_of (xs ++ ys) name) number
    (λ n. number_kept xs ys name n) is

-- the number of the first name is 0
pub number_of-first : (name : List ℕ) (ys : List (List ℕ)) → number_of (name ∷ ys) name ≡ Some 0
number_of-first name ys = ap (λ found. of_test found (number_of ys name)) ((bytes_eq-Decides name name).1 refl)

-- a new name has the next number
pub number_of-new : (xs : List (List ℕ)) (name : List ℕ) → number_of xs name ≡ None
    → number_of (xs ++ name ∷ []) name ≡ Some (length xs)
number_of-new xs name none =
    number_of-append xs (name ∷ []) name none ∙ ap (option_map (λ n. length xs + n)) (number_of-first name [])
    ∙ ap (λ m. Some m) (omega arith)

module _ {N : Type 0} (f : N → List ℕ) (name : List ℕ) where
  -- the number of a name that is found at an index and not before
  pub number_found : (names : List N) (i : ℕ) (d : N) → i < length names
      → number_of (map f (take i names)) name ≡ None → true ≡ bytes_eq (f (get_or names i d)) name
      → Some i ≡ number_of (map f names) name
  number_found [] i d below none found = absurd (omega arith)
  number_found (first ∷ rest) zero d below none found =
      ap (λ b. of_test b (number_of (map f rest) name)) found
  number_found (first ∷ rest) (suc i) d below none found =
      let cases = absent (bytes_eq (f first) name) (number_of (map f (take i rest)) name) none in
      ap (λ n. Some n) (one_more i)
      ∙ ap (option_map (λ n. n + 1)) (number_found rest i d (omega arith) cases.1 found)
      ∙ sym (ap (λ b. of_test b (number_of (map f rest) name)) cases.0)
    where
      one_more : (n : ℕ) → suc n ≡ n + 1
      one_more n = omega arith

  -- a name that isn't equal at an index, and not found before
  pub number_later : (names : List N) (i j : ℕ) (d : N) → i < length names → j ≡ i + 1
      → number_of (map f (take i names)) name ≡ None → false ≡ bytes_eq (f (get_or names i d)) name
      → number_of (map f (take j names)) name ≡ None
  number_later [] i j d below next none other = absurd (omega arith)
  number_later (first ∷ rest) i zero d below next none other = absurd (omega arith)
  number_later (first ∷ rest) zero (suc j) d below next none other =
      ap (λ n. number_of (map f (take (suc n) (first ∷ rest))) name) (zero_left j next)
      ∙ sym (ap (λ b. of_test b None) other)
    where
      zero_left : (j : ℕ) → suc j ≡ 0 + 1 → j ≡ 0
      zero_left j next = omega arith
  number_later (first ∷ rest) (suc i) (suc j) d below next none other =
      let cases = absent (bytes_eq (f first) name) (number_of (map f (take i rest)) name) none in
      ap (λ b. of_test b (number_of (map f (take j rest)) name)) cases.0
      ∙ ap (option_map (λ n. n + 1)) (number_later rest i j d (omega arith) (omega arith) cases.1 other)

module _ (names new : List Name) (added : Name) (is : new ≡ names ++ added ∷ []) where
  -- the bytes of the names with one more
  pub name_bytes-push : name_bytes new ≡ name_bytes names ++ added.bytes.now ∷ []
  name_bytes-push =
      ap (map (λ name. name.bytes.now)) is ∙ map-append (λ name. name.bytes.now) names (added ∷ [])

  -- the name that is added has the next number
  pub number_of-added : (number : ℕ) → None ≡ number_of (name_bytes names) added.bytes.now
      → number ≡ length names → number_of (name_bytes new) added.bytes.now ≡ Some number
  number_of-added number none next =
      ap (λ all. number_of all added.bytes.now) name_bytes-push
      ∙ number_of-new (name_bytes names) added.bytes.now (sym none)
      ∙ ap (λ n. Some n) (length-map names (λ name. name.bytes.now) ∙ sym next)

  -- the others keep their numbers
  pub numbers_kept : KeepsNumbers (name_bytes names) (name_bytes new)
  numbers_kept = λ name number has.
      ap (λ all. number_of all name) name_bytes-push
      ∙ number_kept (name_bytes names) (added.bytes.now ∷ []) name number has

-- the names of the first uses
pub names_of-uses : (names : List Name) → names_of (uses_of names) ≡ name_bytes names
names_of-uses [] = refl
names_of-uses (name ∷ names) = ap (λ rest. name.bytes.now ∷ rest) (names_of-uses names)

-- a known name is no first use
pub uses_known : (names : List Name) (it : FirstUse) (number : ℕ)
    → Some number ≡ number_of (name_bytes names) it.name → uses_of names ≡ with_use (uses_of names) it
uses_known names it number found =
    ap (λ known. if is_some known then uses_of names else uses_of names ++ it ∷ [])
    (found ∙ sym (ap (λ all. number_of all it.name) (names_of-uses names)))

-- a new name is one
pub uses_added : (names new : List Name) (added : Name) → new ≡ names ++ added ∷ []
    → None ≡ number_of (name_bytes names) added.bytes.now
    → uses_of new
    ≡ with_use (uses_of names) (record { position = added.start; name = added.bytes.now })
uses_added names new added is none =
    let it : FirstUse = record { position = added.start; name = added.bytes.now } in
    ap uses_of is
    ∙ map-append use_of names (added ∷ [])
    ∙ ap (λ known. if is_some known then uses_of names else uses_of names ++ it ∷ [])
    (none ∙ sym (ap (λ all. number_of all added.bytes.now) (names_of-uses names)))

-- a name that was added has the next number, and the others keep theirs
pub added_number : (start : ℕ) (bytes : List ℕ) (old new : List Name) (number : ℕ) → AddsName start bytes old new
    → None ≡ number_of (name_bytes old) bytes → number ≡ length old
    → number_of (name_bytes new) bytes ≡ Some number
added_number start bytes old new number (added, is, at, same) none next =
    subst (λ it. number_of (name_bytes new) it ≡ Some number) same
    (number_of-added old new added is number (subst (λ it. None ≡ number_of (name_bytes old) it) (sym same) none)
    next)

pub added_keeps : (start : ℕ) (bytes : List ℕ) (old new : List Name) → AddsName start bytes old new
    → KeepsNumbers (name_bytes old) (name_bytes new)
added_keeps start bytes old new (added, is, at, same) = numbers_kept old new added is

pub added_uses : (start : ℕ) (bytes : List ℕ) (old new : List Name) → AddsName start bytes old new
    → None ≡ number_of (name_bytes old) bytes
    → uses_of new ≡ with_use (uses_of old) (record { position = start; name = bytes })
added_uses start bytes old new (added, is, at, same) none =
    uses_added old new added is (subst (λ it. None ≡ number_of (name_bytes old) it) (sym same) none)
    ∙ ap (λ it. with_use (uses_of old) (record { position = it; name = added.bytes.now })) at
    ∙ ap (λ it. with_use (uses_of old) (record { position = start; name = it })) same

-- a consequence of the value of a success
pub on_ok_of : {T E Q : Type 0} (result : Result T E) (P : T → Type 0) → IfOk result P → ((x : T) → P x → Q)
    → OnOk result Q
on_ok_of (Ok x) P has follows = follows x has
on_ok_of (Err e) P has follows = tt
