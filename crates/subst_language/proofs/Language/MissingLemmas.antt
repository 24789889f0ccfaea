-- The missing variables: those that are required and have no value.
use Rattle.std.proofs.Common.{◌≡◌, ℕ, ◌+◌, ◌≤◌, Bool, List, [], ◌∷◌, ◌++◌, length, Option, Some, None, IsSome, is_some, refl, sym, ap, ◌∙◌, subst, arith}
use Rattle.std.proofs.lemmas.Bool.{false≢true}
use Rattle.std.proofs.lemmas.List.Elements.{All-filter, All-from_recursion, filter-append, filter_map-append}
use Rattle.std.specs.List.{All, AllByRecursion, filter, filter_map}
use Rattle.subst_language.specs.Language.Answer.{Answers, Gives}
use Rattle.subst_language.specs.Language.Laws.{IsSublist}
use Rattle.subst_language.specs.Language.Laws.IsSublist.{nothing, kept, left_out}
use Rattle.subst_language.specs.Language.LookUp.{LookUp}
use Rattle.subst_language.specs.Language.NamesIn.{names_in_item, names_in}
use Rattle.subst_language.specs.Language.Sentence.{Spells}
use Rattle.subst_language.specs.Language.Steps.{Step, given_or, item_steps, steps_of}
use Rattle.subst_language.specs.Language.Tree.{Item, Plain, Escaped, Short, Braced, Optional, Default, Tree, Empty, Then, item_text}
use Rattle.subst_language.specs.Language.Value.{Bytes, Missing, value}
use Rattle.subst_language.specs.Language.Variables.{Variable, required, is_required, name_of, item_variables, variables_of, lacked, all_missing}
use Rattle.subst_language.proofs.Language.ListLemmas.{each_append, each_parts, each_by_recursion, each_mapped}
use Rattle.subst_language.proofs.Language.VariablesLemmas.{missing_first, none_missing, variable_names}

-- the empty list is a sublist of each list
none_left : {X : Type 0} (xs : List X) → IsSublist [] xs
none_left [] = nothing
none_left (x ∷ xs) = left_out (none_left xs)

-- two sublists, concatenated, are a sublist of the two lists concatenated
sublist_append : {X : Type 0} {xs ys us vs : List X} → IsSublist xs ys → IsSublist us vs
    → IsSublist (xs ++ us) (ys ++ vs)
sublist_append nothing more = more
sublist_append (kept rest) more = kept (sublist_append rest more)
sublist_append (left_out rest) more = left_out (sublist_append rest more)

-- a property of each element holds of each element of a sublist
each_left : {X : Type 0} (P : X → Type 0) {xs ys : List X} → IsSublist xs ys → AllByRecursion P ys
    → AllByRecursion P xs
each_left P nothing each = tt
each_left P (kept rest) each = (each.0, each_left P rest each.1)
each_left P (left_out rest) each = each_left P rest each.1

-- a sublist is at most as long as the list
sublist_length : {X : Type 0} {xs ys : List X} → IsSublist xs ys → length xs ≤ length ys
sublist_length nothing = omega arith
sublist_length (kept rest) = omega (arith, sublist_length rest)
sublist_length (left_out rest) = omega (arith, sublist_length rest)

-- a sublist that is as long as the list is the list
sublist_same : {X : Type 0} {xs ys : List X} → IsSublist xs ys → length ys ≤ length xs → xs ≡ ys
sublist_same nothing long = refl
sublist_same {X} (kept {x = x} rest) long = ap (λ (zs : List X). x ∷ zs) (sublist_same rest (omega arith))
sublist_same (left_out rest) long = absurd (omega (arith, sublist_length rest))

-- xs is a sublist of ys, of variables without a value
record IsFewer (look : LookUp) (xs ys : List Variable) : Type 0 where
  sublist : IsSublist xs ys
  each : AllByRecursion (λ v. look v.name ≡ None) xs

module _ (a b : LookUp) where
  -- b has values for all of these names for which a has values
  abbrev HasAlso : List (List ℕ) → Type 0
  HasAlso = AllByRecursion (λ n. IsSome (a n) → IsSome (b n))

  -- then fewer steps are missing under b than under a: of one name
  found_fewer : (o r : Option (List ℕ)) (xs ys : List Step) → (IsSome o → IsSome r)
      → (r ≡ None → IsFewer b (filter_map lacked xs) (filter_map lacked ys))
      → IsFewer b (filter_map lacked (given_or r xs)) (filter_map lacked (given_or o ys))
  found_fewer o (Some x) xs ys wider fewer = record { sublist = none_left _; each = tt }
  found_fewer None None xs ys wider fewer = fewer refl
  found_fewer (Some y) None xs ys wider fewer = absurd (false≢true (wider refl))

  mutual
    -- of the names of an item
    item_fewer : (item : Item) (p : ℕ) → HasAlso (names_in_item item)
        → IsFewer b (filter_map lacked (item_steps p item b)) (filter_map lacked (item_steps p item a))
    item_fewer (Plain c) p also = record { sublist = nothing; each = tt }
    item_fewer (Escaped c) p also = record { sublist = nothing; each = tt }
    item_fewer (Short n) p also =
        found_fewer (a n) (b n) _ _ also.0 (λ none. record { sublist = kept nothing; each = (none, tt) })
    item_fewer (Braced n) p also =
        found_fewer (a n) (b n) _ _ also.0 (λ none. record { sublist = kept nothing; each = (none, tt) })
    item_fewer (Optional n) p also =
        found_fewer (a n) (b n) [] [] also.0 (λ none. record { sublist = nothing; each = tt })
    item_fewer (Default n t) p also =
        found_fewer (a n) (b n) _ _ also.0 (λ none. missing_fewer t (p + 3 + length n) also.1)

    -- of the names of a tree
    missing_fewer : (t : Tree) (p : ℕ) → HasAlso (names_in t)
        → IsFewer b (all_missing p t b) (all_missing p t a)
    missing_fewer Empty p also = record { sublist = nothing; each = tt }
    missing_fewer (Then item rest) p also =
        let parts = each_parts (λ n. IsSome (a n) → IsSome (b n)) (names_in_item item) (names_in rest) also in
        let first = item_fewer item p parts.0 in
        let more = missing_fewer rest (p + length (item_text item)) parts.1 in
        rw (
          filter_map-append lacked (item_steps p item a) (steps_of (p + length (item_text item)) rest a),
          filter_map-append lacked (item_steps p item b) (steps_of (p + length (item_text item)) rest b),
        ) (record {
          sublist = sublist_append first.sublist more.sublist;
          each = each_append _ _ _ first.each more.each;
        })

-- a variable is required
abbrev is_needed : Variable → Bool
is_needed v = is_required v.kind

mutual
  -- if no name has a value, an item misses its required variables
  item_required : (item : Item) (p : ℕ)
      → filter_map lacked (item_steps p item (λ name. None)) ≡ filter is_needed (item_variables p item)
  item_required (Plain b) p = refl
  item_required (Escaped b) p = refl
  item_required (Short n) p = refl
  item_required (Braced n) p = refl
  item_required (Optional n) p = refl
  item_required (Default n t) p = tree_required t (p + 3 + length n)

  -- if no name has a value, a tree misses its required variables
  tree_required : (t : Tree) (p : ℕ)
      → all_missing p t (λ name. None) ≡ filter is_needed (variables_of p t)
  tree_required Empty p = refl
  tree_required (Then item rest) p =
      let q = p + length (item_text item) in
      rw (
        filter_map-append lacked (item_steps p item (λ name. None)) (steps_of q rest (λ name. None)),
        filter-append is_needed (item_variables p item) (variables_of q rest),
        item_required item p,
        tree_required rest q,
      ) refl

-- the missing variables are a sublist of the required ones
pub missing_required : (p : ℕ) (t : Tree) (look : LookUp)
    → IsSublist (all_missing p t look) (filter (λ v. is_required v.kind) (variables_of p t))
missing_required p t look =
    let fewer = missing_fewer (λ name. None) look t p
    (each_by_recursion _ (names_in t) (λ k d inside some. absurd (false≢true some))) in
    subst (IsSublist (all_missing p t look)) (tree_required t p) fewer.sublist

-- no missing variable has a value
pub missing_lacked : (p : ℕ) (t : Tree) (look : LookUp)
    → AllByRecursion (λ v. look v.name ≡ None) (all_missing p t look)
missing_lacked p t look =
    (missing_fewer look look t p (each_by_recursion _ (names_in t) (λ k d inside some. some))).each

-- a property of each variable of a tree holds of each missing one
pub missing_among : (P : Variable → Type 0) (p : ℕ) (t : Tree) (look : LookUp)
    → AllByRecursion P (variables_of p t) → AllByRecursion P (all_missing p t look)
missing_among P p t look each =
    each_left P (missing_required p t look)
    (each_by_recursion P _ (All-filter is_needed P (variables_of p t) (All-from_recursion P _ each)))

-- and of the variable that the value misses
pub first_among : (P : Variable → Type 0) (p position : ℕ) (t : Tree) (look : LookUp) (name : List ℕ)
    → value p t look ≡ Missing position name → AllByRecursion P (variables_of p t)
    → P (required position name)
first_among P p position t look name missing each =
    let (more, is) = missing_first p position t look name missing in
    (subst (AllByRecursion P) is (missing_among P p t look each)).0

-- if each missing variable has a value, the tree's value is bytes
all_supplied : (p : ℕ) (t : Tree) (look : LookUp)
    → AllByRecursion (λ v. IsSome (look v.name)) (all_missing p t look)
    → (x : List ℕ) × (value p t look ≡ Bytes x)
all_supplied p t look some =
    (none_missing p t look).0 (none (all_missing p t look) (missing_lacked p t look) some)
  where
    none : (missing : List Variable) → AllByRecursion (λ v. look v.name ≡ None) missing
        → AllByRecursion (λ v. IsSome (look v.name)) missing → missing ≡ []
    none [] lacks some = refl
    none (v ∷ missing) lacks some = absurd (false≢true (subst IsSome lacks.0 some.0))

-- the same under a second look-up, with values for them and for all names for which the first has values
pub missing_supplied : (p : ℕ) (t : Tree) (a b : LookUp) → ((n : List ℕ) → IsSome (a n) → IsSome (b n))
    → All (λ v. IsSome (b v.name)) (all_missing p t a) → (x : List ℕ) × (value p t b ≡ Bytes x)
missing_supplied p t a b wider each =
    let fewer = missing_fewer a b t p (each_by_recursion _ (names_in t) (λ k d inside. wider _)) in
    all_supplied p t b (each_left (λ v. IsSome (b v.name)) fewer.sublist (each_by_recursion _ _ each))

-- bytes stay bytes under a look-up with values for at least the same names
pub bytes_stay : (p : ℕ) (t : Tree) (a b : LookUp) (x : List ℕ)
    → All (λ n. IsSome (a n) → IsSome (b n)) (names_in t) → value p t a ≡ Bytes x
    → (y : List ℕ) × (value p t b ≡ Bytes y)
bytes_stay p t a b x also gives =
    let fewer = missing_fewer a b t p (each_by_recursion _ (names_in t) also) in
    let none = (none_missing p t a).1 (x, gives) in
    let left = subst (IsSublist (all_missing p t b)) none fewer.sublist in
    (none_missing p t b).0 (sublist_same left (omega arith))

-- the same variables are missing under look-ups with values for the same names
pub missing_same : (p : ℕ) (t : Tree) (a b : LookUp) → ((n : List ℕ) → is_some (a n) ≡ is_some (b n))
    → all_missing p t a ≡ all_missing p t b
missing_same p t a b same =
    let more = missing_fewer b a t p (each_by_recursion _ (names_in t) (λ k d inside some. same _ ∙ some)) in
    let fewer =
    missing_fewer a b t p (each_by_recursion _ (names_in t) (λ k d inside some. sym (same _) ∙ some)) in
    sublist_same more.sublist (sublist_length fewer.sublist)

-- the answer of a source is bytes under a look-up with values for all names of its tree
pub all_given : (s : List ℕ) (t : Tree) (look : LookUp) → Spells t s → All (λ n. IsSome (look n)) (names_in t)
    → (x : List ℕ) × Answers s look (Gives x)
all_given s t look spells each =
    let P = λ (n : List ℕ). IsSome (look n) in
    let names = each_mapped name_of P (variables_of 0 t) (variable_names 0 t) (each_by_recursion P _ each) in
    let (x, gives) =
    all_supplied 0 t look (missing_among (λ v. P v.name) 0 t look (each_by_recursion _ _ names)) in
    (x, (t, spells, gives))
