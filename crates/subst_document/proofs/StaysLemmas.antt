-- Strings of which some change.
use Rattle.std.proofs.Common.{◌≡◌, ◌≢◌, ◌≤◌, ◌+◌, ℕ, Bool, true, false, ◌||◌, IsTrue, List, [], ◌∷◌, ◌++◌, length, inl, inr, refl, sym, ap, ap₂, ◌∙◌, arith, append_assoc, append-nil}
use Rattle.subst_document.specs.Stays.{AreValues, SomeChanges, AllStay, StatesChange}
use Rattle.subst_document.specs.declared.strings.ValueAt.{ValueAt}

-- two equal texts have equal prefixes of one length, and equal rests
same_cut : (a b c d : List ℕ) → length a ≡ length b → a ++ c ≡ b ++ d → (a ≡ b) × (c ≡ d)
same_cut [] [] c d len is = (refl, is)
same_cut [] (y ∷ b) c d len is = absurd (omega (arith, len))
same_cut (x ∷ a) [] c d len is = absurd (omega (arith, len))
same_cut (x ∷ a) (y ∷ b) c d len is =
    let (same, rest) = same_cut a b c d (omega (arith, len)) cc in
    let first : x ≡ y = cc in (ap₂ (λ k l. k ∷ l) first same, rest)

module _ (Becomes : List ℕ → List ℕ → Type 0) where
  pub some_before : (xs ys : List (List ℕ)) → SomeChanges Becomes xs → SomeChanges Becomes (xs ++ ys)
  some_before [] ys h = absurd h
  some_before (x ∷ xs) ys (inl other) = inl other
  some_before (x ∷ xs) ys (inr h) = inr (some_before xs ys h)

  pub some_after : (xs ys : List (List ℕ)) → SomeChanges Becomes ys → SomeChanges Becomes (xs ++ ys)
  some_after [] ys h = h
  some_after (x ∷ xs) ys h = inr (some_after xs ys h)

  all_stay_more : (xs : List (List ℕ)) (x : List ℕ) → AllStay Becomes xs → Becomes x x
      → AllStay Becomes (xs ++ x ∷ [])
  all_stay_more [] x h same = (same, tt)
  all_stay_more (y ∷ xs) x h same = (h.0, all_stay_more xs x h.1 same)

  -- one more string is unchanged
  pub states_more : (xs : List (List ℕ)) (x source output : List ℕ) (is_changed : Bool)
      → StatesChange Becomes xs source output is_changed → Becomes x x
      → StatesChange Becomes (xs ++ x ∷ []) source output is_changed
  states_more xs x source output true h same = some_before xs (x ∷ []) h
  states_more xs x source output false h same = (all_stay_more xs x h.0 same, h.1)

  -- one more string is unchanged, and has no value
  pub values_kept : (index : ℕ) (xs : List (List ℕ)) (x : List ℕ) (list : List ValueAt) (text : List ℕ)
      → AreValues Becomes index xs list text → Becomes x x → AreValues Becomes index (xs ++ x ∷ []) list text
  values_kept index [] x list text none same = inl (same, none)
  values_kept index (y ∷ xs) x list text (inl (here, h)) same =
      inl (here, values_kept (index + 1) xs x list text h same)
  values_kept index (y ∷ xs) x list text (inr (value, rest, more, is, at, here, h)) same =
      inr (value, rest, more, is, at, here, values_kept (index + 1) xs x more rest h same)

  -- one more string changes, and has a value
  pub values_more : (index : ℕ) (xs : List (List ℕ)) (x value : List ℕ) (list : List ValueAt) (text : List ℕ)
      → AreValues Becomes index xs list text → Becomes x value → AreValues Becomes index (xs ++ x ∷ [])
      (list ++ record { index = index + length xs; len = length value } ∷ []) (text ++ value)
  values_more index [] x value list text (none, empty) becomes =
      inr (
        value,
        [],
        [],
        ap (λ l. l ++ value) empty ∙ sym (append-nil value),
        ap (λ l. l ++ record { index = index + 0; len = length value } ∷ []) none
            ∙ ap (λ i. record { index = i; len = length value } ∷ []) (omega arith),
        becomes,
        (refl, refl),
      )
  values_more index (y ∷ xs) x value list text h becomes =
      let at : index + length (y ∷ xs) ≡ (index + 1) + length xs = omega arith in
      rw at (elim h as (λ _. AreValues Becomes index (y ∷ (xs ++ x ∷ []))
      (list ++ record { index = (index + 1) + length xs; len = length value } ∷ []) (text ++ value)) [
        | inl stays ↦ inl (stays.0, values_more (index + 1) xs x value list text stays.1 becomes)
        | inr changes ↦
            let (first, rest, more, is, is_first, here, later) = changes in
            inr (
              first,
              rest ++ value,
              more ++ record { index = (index + 1) + length xs; len = length value } ∷ [],
              ap (λ l. l ++ value) is ∙ append_assoc first rest value,
              ap (λ l. l ++ record { index = (index + 1) + length xs; len = length value } ∷ []) is_first,
              here,
              values_more (index + 1) xs x value more rest later becomes,
            )
      ])

  -- no value is that of an earlier string
  values_after : (index : ℕ) (xs : List (List ℕ)) (at : ValueAt) (more : List ValueAt) (text : List ℕ)
      → AreValues Becomes index xs (at ∷ more) text → index ≤ at.index
  values_after index [] at more text none = absurd cc
  values_after index (x ∷ xs) at more text (inl (same, h)) =
      let after = values_after (index + 1) xs at more text h in omega (arith, after)
  values_after index (x ∷ xs) at more text (inr (value, rest, others, is, first, here, h)) =
      let same : at.index ≡ index = cc in omega (arith, same)

  -- the first value is that of the first string, if it has its index
  pub first_value : (index : ℕ) (x : List ℕ) (xs : List (List ℕ)) (at : ValueAt) (more : List ValueAt)
      (value rest : List ℕ) → at.index ≡ index → length value ≡ at.len
      → AreValues Becomes index (x ∷ xs) (at ∷ more) (value ++ rest)
      → Becomes x value × AreValues Becomes (index + 1) xs more rest
  first_value index x xs at more value rest here len (inl (same, h)) =
      let after = values_after (index + 1) xs at more (value ++ rest) h in absurd (omega (arith, after, here))
  first_value index x xs at more value rest here len (inr (first, left, others, is, is_first, becomes, h)) =
      let same_len : length value ≡ length first = cc in
      let others_are : more ≡ others = cc in
      let (value_is, rest_is) = same_cut value first rest left same_len is in
      rw (value_is, rest_is, others_are) (becomes, h)

  -- otherwise the first string is unchanged
  pub first_stays : (index : ℕ) (x : List ℕ) (xs : List (List ℕ)) (at : ValueAt) (more : List ValueAt)
      (text : List ℕ) → at.index ≢ index → AreValues Becomes index (x ∷ xs) (at ∷ more) text
      → Becomes x x × AreValues Becomes (index + 1) xs (at ∷ more) text
  first_stays index x xs at more text other (inl h) = h
  first_stays index x xs at more text other (inr (value, rest, others, is, first, becomes, h)) =
      let same : at.index ≡ index = cc in absurd (other same)

  pub each_stays : (index : ℕ) (x : List ℕ) (xs : List (List ℕ)) (text : List ℕ)
      → AreValues Becomes index (x ∷ xs) [] text → Becomes x x × AreValues Becomes (index + 1) xs [] text
  each_stays index x xs text (inl h) = h
  each_stays index x xs text (inr (value, rest, others, is, first, becomes, h)) = absurd cc

-- a consequence of each of two tests is one of their disjunction
pub either_test : (P : Type 0) (a b both : Bool) → both ≡ (a || b) → (IsTrue a → P) → (IsTrue b → P)
    → IsTrue both → P
either_test P true b both is h k some = h refl
either_test P false b both is h k some = k (sym is ∙ some)
