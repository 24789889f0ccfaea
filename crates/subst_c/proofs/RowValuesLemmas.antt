-- The values of a template's names in rows of pairs, by number.
use denote.Ref.{Bor}
use Rattle.std.proofs.Common.{◌≡◌, ◌≢◌, ℕ, ◌+◌, ◌<◌, ◌≤◌, ◌⊎◌, Bool, true, false, Option, Some, None, List, [], ◌∷◌, ◌++◌, take, drop, map, length, nat_lt, get_or, refl, sym, ap, ◌∙◌, subst, arith, inl, inr}
use Rattle.std.proofs.lemmas.List.{length-map, length-take-le, map-append, take_all, take_more, take-append-drop}
use Rattle.std.proofs.lemmas.Bool.Decides.{nat_tests}
use Rattle.std.proofs.lemmas.List.Elements.{All-from_recursion}
use Rattle.std.proofs.lemmas.Option.{get_or_from_slice_get, slice_get-get_or, slice_get-map, slice_get_read, slice_get_within, slice_get_cases}
use Rattle.std.proofs.lemmas.Slice.Eq.{bytes_eq-Decides}
use Rattle.std.specs.BTreeMap.{BTreeMap}
use Rattle.std.specs.List.{AllByRecursion}
use Rattle.std.specs.Option.{option_and_then, option_map, option_or}
use Rattle.std.specs.Prelude.{is_some, slice_get, slice_index_or, if◌then◌else◌}
use Rattle.std.specs.Str.{bytes_eq}
use Rattle.subst_language.specs.Language.LookUp.{LookUp}
use Rattle.subst_language.specs.Language.Sentence.{ByTree, IsSentence}
use Rattle.subst_language.specs.Language.Tree.{Tree}
use Rattle.subst_language.specs.Language.Value.{value}
use Rattle.subst_language.specs.Language.Variables.{Variable, name_of, variables_of}
use Rattle.subst_language.proofs.Language.NamesInLemmas.{value_same}
use Rattle.subst_language.proofs.Language.VariablesLemmas.{variable_names}
use Rattle.subst_indexed.proofs.DistinctLemmas.{distinct_push, name_at}
use Rattle.subst_indexed.proofs.NumberMapLemmas.{has_numbers-push}
use Rattle.subst_indexed.proofs.NumberingLemmas.{number_kept, number_of-new}
use Rattle.subst_indexed.specs.Expansion.{Values}
use Rattle.subst_indexed.specs.Names.{AreDistinct, HasNumbers, number_in}
use Rattle.subst_indexed.specs.Numbering.{FirstUse, look_by_number, look_of, names_of, number_of, with_use, with_variables}
use Rattle.subst_indexed.specs.Slot.{values_of}
use Rattle.subst_c.specs.Pairs.{pair_value}
use Rattle.subst_c.specs.RowValues.{AreValuesOf, bytes_of, names_at}
use Rattle.subst_c.specs.declared.pairs.Pair.{Pair}
use Rattle.subst_c.proofs.IndexLemmas.{pair_value-take}

-- the bytes of a value
abbrev seen : Option (Bor (List ℕ)) → Option (List ℕ)
seen value = option_map (λ bytes. bytes.now) value

some_injective : {X : Type 0} {x y : X} → Some x ≡ Some y → x ≡ y
some_injective same = cc

-- the names of a template

-- one element more
pub take_given : {X : Type 0} (xs : List X) (n : ℕ) (x : X) → Some x ≡ slice_get xs n
    → take (n + 1) xs ≡ take n xs ++ x ∷ []
take_given xs n x is =
    take_more xs n x (slice_get_within xs n x (sym is))
    ∙ ap (λ y. take n xs ++ y ∷ []) (get_or_from_slice_get xs n x x (sym is))

-- no more elements
pub take_past : {X : Type 0} (xs : List X) (n : ℕ) → None ≡ slice_get xs n → take n xs ≡ xs
take_past {X} xs n is = of (slice_get_cases xs n).1
  where
    of : ((x : X) × (n < length xs) × (slice_get xs n ≡ Some x) × (get_or xs n x ≡ x))
        ⊎ ((length xs ≤ n) × (slice_get xs n ≡ None)) → take n xs ≡ xs
    of (inl (x, below, found, same)) = absurd cc
    of (inr (past, none)) = take_all n xs past

-- the first use of a variable, if it is one
abbrev use_at : Variable → FirstUse
use_at variable = record { position = variable.position; name = variable.name }

-- with one use more, names stay distinct
distinct_with : (uses : List FirstUse) (it : FirstUse) → AreDistinct (names_of uses)
    → AreDistinct (names_of (with_use uses it))
distinct_with uses it distinct = of (number_of (names_of uses) it.name) refl
  where
    of : (found : Option ℕ) → number_of (names_of uses) it.name ≡ found
        → AreDistinct (names_of (if is_some found then uses else uses ++ it ∷ []))
    of (Some number) is = distinct
    of None none =
        subst AreDistinct (sym (map-append (λ one. one.name) uses (it ∷ [])))
        (distinct_push (names_of uses) it.name distinct none)

distinct_with_all : (uses : List FirstUse) (more : List Variable) → AreDistinct (names_of uses)
    → AreDistinct (names_of (with_variables uses more))
distinct_with_all uses [] distinct = distinct
distinct_with_all uses (variable ∷ more) distinct =
    distinct_with_all (with_use uses (use_at variable)) more (distinct_with uses (use_at variable) distinct)

-- the names of a tree are distinct
pub names_distinct : (t : Tree) → AreDistinct (names_at t)
names_distinct t = distinct_with_all [] (variables_of 0 t) (λ index name is. absurd cc)

-- a name has a number
abbrev pub HasNumber : List (List ℕ) → List ℕ → Type 0
HasNumber names name = (number : ℕ) × (number_of names name ≡ Some number)

-- with one use more, names keep their numbers, and its name has one
kept_with : (uses : List FirstUse) (it : FirstUse) (name : List ℕ) → HasNumber (names_of uses) name
    → HasNumber (names_of (with_use uses it)) name
kept_with uses it name (number, is) = (number, of (is_some (number_of (names_of uses) it.name)))
  where
    of : (known : Bool) → number_of (names_of (if known then uses else uses ++ it ∷ [])) name ≡ Some number
    of true = is
    of false =
        ap (λ all. number_of all name) (map-append (λ one. one.name) uses (it ∷ []))
        ∙ number_kept (names_of uses) (it.name ∷ []) name number is

has_with : (uses : List FirstUse) (it : FirstUse) → HasNumber (names_of (with_use uses it)) it.name
has_with uses it = of (number_of (names_of uses) it.name) refl
  where
    of : (found : Option ℕ) → number_of (names_of uses) it.name ≡ found
        → HasNumber (names_of (if is_some found then uses else uses ++ it ∷ [])) it.name
    of (Some number) is = (number, is)
    of None none = (
      length (names_of uses),
      ap (λ all. number_of all it.name) (map-append (λ one. one.name) uses (it ∷ []))
          ∙ number_of-new (names_of uses) it.name none,
    )

kept_with_all : (uses : List FirstUse) (more : List Variable) (name : List ℕ) → HasNumber (names_of uses) name
    → HasNumber (names_of (with_variables uses more)) name
kept_with_all uses [] name has = has
kept_with_all uses (variable ∷ more) name has =
    kept_with_all (with_use uses (use_at variable)) more name (kept_with uses (use_at variable) name has)

-- each variable's name has a number
has_with_all : (uses : List FirstUse) (more : List Variable)
    → AllByRecursion (HasNumber (names_of (with_variables uses more))) (map name_of more)
has_with_all uses [] = tt
has_with_all uses (variable ∷ more) = (
  kept_with_all (with_use uses (use_at variable)) more variable.name (has_with uses (use_at variable)),
  has_with_all (with_use uses (use_at variable)) more,
)

-- the look-up of values by number has the values of a look-up by name
same_at : (names : List (List ℕ)) (values : Values) (look : LookUp) (name : List ℕ)
    → AreValuesOf names look values → HasNumber names name → look_of names values name ≡ look name
same_at names values look name are (number, is) = ap (option_and_then values) is ∙ are name number is

-- a tree has one value under a look-up and under its values by number
pub value_by_number : (t : Tree) (values : Values) (look : LookUp) → AreValuesOf (names_at t) look values
    → value 0 t (look_by_number t values) ≡ value 0 t look
value_by_number t values look are =
    let numbered = All-from_recursion (HasNumber (names_at t)) (map name_of (variables_of 0 t))
    (has_with_all [] (variables_of 0 t)) in
    value_same 0 t (look_by_number t values) look
    (λ k d below. same_at (names_at t) values look _ are
    (subst (λ ns. HasNumber (names_at t) (slice_index_or ns k d)) (variable_names 0 t)
    (numbered k d (omega (arith, ap length (variable_names 0 t))))))

-- the numbers of names

-- a name that is read at a guessed index has this index as its number
pub number_guessed : (list all : List (Bor (List ℕ))) (guess : ℕ) (expected : Bor (List ℕ)) (name : List ℕ)
    → AreDistinct (bytes_of list) → all ≡ list → true ≡ nat_lt guess (length all)
    → expected ≡ get_or all guess expected → true ≡ bytes_eq expected.now name
    → Some guess ≡ number_of (bytes_of list) name
number_guessed list all guess expected name distinct is below read same =
    let inside : guess < length all = grind (arith, nat_tests, below) in
    let at : slice_get list guess ≡ Some expected =
    subst (λ xs. slice_get xs guess ≡ Some expected) is
    (slice_get_read all (length all) guess expected refl inside read)
    in
    sym (distinct guess name (slice_get-map (λ it. it.now) list guess ∙ ap (option_map (λ it. it.now)) at
    ∙ ap (λ it. Some it) ((bytes_eq-Decides expected.now name).0 (sym same))))

-- a number is less than the number of names
pub number_within : (names : List (List ℕ)) (name : List ℕ) (number : ℕ) → Some number ≡ number_of names name
    → number < length names
number_within names name number is = slice_get_within names number name (name_at names name number (sym is))

module _ (names : List (Bor (List ℕ))) (i : ℕ) (d : Bor (List ℕ)) (below : i < length names)
    (distinct : AreDistinct (bytes_of names)) where
  abbrev before : List (List ℕ)
  before = bytes_of (take i names)

  abbrev last : List ℕ
  last = (get_or names i d).now

  -- the name at the index isn't among those before it
  new_at : number_of before last ≡ None
  new_at = of (number_of before last) refl
    where
      cut : before ++ bytes_of (drop i names) ≡ bytes_of names
      cut = sym (map-append (λ it. it.now) (take i names) (drop i names)) ∙ ap bytes_of (take-append-drop i names)

      own : number_of (bytes_of names) last ≡ Some i
      own =
          distinct i last (slice_get-map (λ it. it.now) names i
          ∙ ap (option_map (λ it. it.now)) (slice_get-get_or names i d below))

      counted : length before ≡ i
      counted = length-map (take i names) (λ it. it.now) ∙ length-take-le i names (omega (arith, below))

      of : (found : Option ℕ) → number_of before last ≡ found → found ≡ None
      of (Some number) is =
          let all : number_of (bytes_of names) last ≡ Some number =
          ap (λ xs. number_of xs last) (sym cut) ∙ number_kept before (bytes_of (drop i names)) last number is
          in
          let same : number ≡ i = some_injective (sym all ∙ own) in
          absurd (omega (arith, same, counted, number_within before last number (sym is)))
      of None is = refl

  -- a map has the numbers of one name more once this name is inserted
  pub numbers_more : (old new : BTreeMap (Bor (List ℕ)) ℕ) (number : ℕ) → HasNumbers old before → number ≡ i
      → ((other : List ℕ) → number_in new other
      ≡ (if bytes_eq last other then Some number else number_in old other))
      → HasNumbers new (bytes_of (take (i + 1) names))
  numbers_more old new number has next inserted =
      let taken : bytes_of (take (i + 1) names) ≡ before ++ last ∷ [] =
      ap bytes_of (take_more names i d below) ∙ map-append (λ it. it.now) (take i names) (get_or names i d ∷ [])
      in
      let counted : number ≡ length before =
      next ∙ sym (length-map (take i names) (λ it. it.now) ∙ length-take-le i names (omega (arith, below)))
      in
      subst (HasNumbers new) (sym taken) (has_numbers-push old new before last number has new_at counted inserted)

-- the values of names

-- a value found for each name
pub each_searched : (names : List (Bor (List ℕ))) (list : List (Option (Bor (List ℕ)))) (look : LookUp)
    → map seen list ≡ map (λ name. look name.now) names → AreValuesOf (bytes_of names) look (values_of list)
each_searched names list look are = λ name number is.
    of name (slice_get list number) (slice_get names number)
    (sym (slice_get-map seen list number) ∙ ap (λ all. slice_get all number) are
    ∙ slice_get-map (λ it. look it.now) names number)
    (sym (slice_get-map (λ it. it.now) names number) ∙ name_at (bytes_of names) name number is)
  where
    of : (name : List ℕ) (v : Option (Option (Bor (List ℕ)))) (n : Option (Bor (List ℕ)))
        → option_map seen v ≡ option_map (λ it. look it.now) n → option_map (λ it. it.now) n ≡ Some name
        → option_and_then seen v ≡ look name
    of name (Some v) (Some n) same at =
        some_injective same ∙ ap look (some_injective at)
    of name None (Some n) same at = absurd cc
    of name v None same at = absurd cc

option_or-none : {X : Type 0} (o : Option X) → option_or o None ≡ o
option_or-none (Some x) = refl
option_or-none None = refl

module _ (names : List (List ℕ)) (pairs : List Pair) (i : ℕ) (d : Pair) (below : i < length pairs)
    (old : Values) (are : AreValuesOf names (pair_value (take i pairs)) old) where
  abbrev pair : Pair
  pair = get_or pairs i d

  -- a name that isn't the pair's keeps its value
  other_name : (name : List ℕ) (number : ℕ) → number_of names name ≡ Some number
      → bytes_eq name pair.name.now ≡ false → old number ≡ pair_value (take (i + 1) pairs) name
  other_name name number is differ =
      are name number is ∙ sym (pair_value-take pairs i d name below
      ∙ ap (λ b. option_or (pair_value (take i pairs) name) (if b then Some pair.value.now else None)) differ
      ∙ option_or-none (pair_value (take i pairs) name))

  -- a pair with a name of the template
  pub pair_found : (new : Values) (found : ℕ) → Some found ≡ number_of names pair.name.now
      → new found ≡ option_or (old found) (Some pair.value.now)
      → ((other : ℕ) → other ≢ found → new other ≡ old other)
      → AreValuesOf names (pair_value (take (i + 1) pairs)) new
  pair_found new found has set kept = λ name number is. of name number is (bytes_eq name pair.name.now) refl
    where
      of : (name : List ℕ) (number : ℕ) → number_of names name ≡ Some number → (b : Bool)
          → bytes_eq name pair.name.now ≡ b → new number ≡ pair_value (take (i + 1) pairs) name
      of name number is true same =
          let it : name ≡ pair.name.now = (bytes_eq-Decides name pair.name.now).0 same in
          let at : number ≡ found =
          some_injective (sym is ∙ ap (number_of names) it ∙ sym has) in
          ap new at ∙ set ∙ ap (λ n. option_or (old n) (Some pair.value.now)) (sym at)
          ∙ ap (λ v. option_or v (Some pair.value.now)) (are name number is)
          ∙ sym (pair_value-take pairs i d name below
          ∙ ap (λ b. option_or (pair_value (take i pairs) name) (if b then Some pair.value.now else None)) same)
      of name number is false differ =
          let other : number ≢ found = λ at.
          let same : Some name ≡ Some pair.name.now =
          sym (name_at names name number is) ∙ ap (slice_get names) at
          ∙ name_at names pair.name.now found (sym has)
          in
          let equal : bytes_eq name pair.name.now ≡ true =
          (bytes_eq-Decides name pair.name.now).1 (some_injective same)
          in
          cc
          in
          kept number other ∙ other_name name number is differ

  -- a pair with another name
  pub pair_passed : None ≡ number_of names pair.name.now → AreValuesOf names (pair_value (take (i + 1) pairs)) old
  pair_passed none = λ name number is. of name number is (bytes_eq name pair.name.now) refl
    where
      of : (name : List ℕ) (number : ℕ) → number_of names name ≡ Some number → (b : Bool)
          → bytes_eq name pair.name.now ≡ b → old number ≡ pair_value (take (i + 1) pairs) name
      of name number is true same =
          let has : number_of names pair.name.now ≡ Some number =
          ap (number_of names) (sym ((bytes_eq-Decides name pair.name.now).0 same)) ∙ is
          in
          absurd cc
      of name number is false differ = other_name name number is differ

-- the values after all pairs
pub all_taken : (names : List (List ℕ)) (pairs : List Pair) (at : ℕ) (values : Values) → length pairs ≤ at
    → AreValuesOf names (pair_value (take at pairs)) values → AreValuesOf names (pair_value pairs) values
all_taken names pairs at values past are =
    subst (λ all. AreValuesOf names (pair_value all) values) (take_all at pairs past) are

-- names are distinct if they are those of a sentence
pub template_distinct : (s : List ℕ) (names : List (Bor (List ℕ))) → IsSentence s
    → ByTree s (λ t. bytes_of names ≡ names_at t) → AreDistinct (bytes_of names)
template_distinct s names (t, spells) are = subst AreDistinct (sym (are t spells)) (names_distinct t)
