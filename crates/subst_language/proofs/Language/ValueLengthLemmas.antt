-- The length of values, and its limits.
use Rattle.std.proofs.Common.{rules, ◌≡◌, ℕ, ◌+◌, ◌*◌, ◌≤◌, ◌==◌, List, [], ◌∷◌, ◌++◌, length, Option, Some, None, unwrap_or, refl, ◌∙◌, subst, count_by, sum_by, length-append, arith}
use Rattle.std.proofs.lemmas.List.Sums.{sum_by-append, sum_by-cons, sum_by-le}
use Rattle.std.proofs.Math.Nat.{mul-le-mul_right}
use Rattle.subst_language.specs.Language.Bytes.{dollar, colon, question_mark, opening_brace, closing_brace}
use Rattle.subst_language.specs.Language.Tree.{Item, Plain, Escaped, Short, Braced, Optional, Default, Tree, Empty, Then, item_text, text}
use Rattle.subst_language.specs.Language.NamesIn.{names_in_item, names_in}
use Rattle.subst_language.specs.Language.LookUp.{LookUp}
use Rattle.subst_language.specs.Language.Steps.{Step, Lacks, given_or, item_steps, steps_of}
use Rattle.subst_language.specs.Language.Value.{Bytes, value}
use Rattle.subst_language.specs.Language.ValueLength.{length_of, given_length, step_length, value_length, visited_length}
use Rattle.subst_language.specs.Language.Written.{written}
use Rattle.subst_language.specs.Language.Answer.{Answers, Gives}
use Rattle.subst_language.specs.Language.Sentence.{Spells}
use Rattle.subst_language.proofs.Language.StepsLemmas.{Tells, value_tells, written_at_most}

-- steps with as many bytes have as many if a value is found instead
given_long : (o : Option (List ℕ)) (xs ys : List Step) → sum_by step_length xs ≡ sum_by step_length ys
    → sum_by step_length (given_or o xs) ≡ sum_by step_length (given_or o ys)
given_long (Some x) xs ys same = refl
given_long None xs ys same = same

module _ (look : LookUp) where
  mutual
    -- an item's steps have as many bytes at each position
    item_steps_long : (item : Item) (p q : ℕ)
        → sum_by step_length (item_steps p item look) ≡ sum_by step_length (item_steps q item look)
    item_steps_long (Plain b) p q = refl
    item_steps_long (Escaped b) p q = refl
    item_steps_long (Short n) p q = given_long (look n) (Lacks (p + 1) n ∷ []) (Lacks (q + 1) n ∷ []) refl
    item_steps_long (Braced n) p q = given_long (look n) (Lacks (p + 2) n ∷ []) (Lacks (q + 2) n ∷ []) refl
    item_steps_long (Optional n) p q = refl
    item_steps_long (Default n t) p q =
        given_long (look n) _ _ (steps_long t (p + 3 + length n) (q + 3 + length n))

    -- a tree's steps have as many bytes at each position
    steps_long : (t : Tree) (p q : ℕ)
        → sum_by step_length (steps_of p t look) ≡ sum_by step_length (steps_of q t look)
    steps_long Empty p q = refl
    steps_long (Then item rest) p q =
        let first = item_steps_long item p q in
        let after = steps_long rest (p + length (item_text item)) (q + length (item_text item)) in
        simp (sum_by-append, first, after)

-- the length of a value that is bytes is that of the bytes
pub value_length_exact : (p : ℕ) (t : Tree) (look : LookUp) (x : List ℕ) → value p t look ≡ Bytes x
    → value_length t look ≡ length x
value_length_exact p t look x gives =
    steps_long look t 0 p ∙ (subst (Tells (steps_of p t look)) gives (value_tells p t look)).1

-- no more is written than is counted
pub written_length_at_most : (p : ℕ) (t : Tree) (look : LookUp)
    → length (written p t look) ≤ value_length t look
written_length_at_most p t look = omega (arith, written_at_most (steps_of p t look), steps_long look t p 0)

-- if the value is bytes, these are written
pub written_exact : (p : ℕ) (t : Tree) (look : LookUp) (x : List ℕ) → value p t look ≡ Bytes x
    → written p t look ≡ x
written_exact p t look x gives = (subst (Tells (steps_of p t look)) gives (value_tells p t look)).0

-- The steps have at most `own` bytes of their own, and at most `found` bytes of values.
record IsBounded (own found : ℕ) (steps : List Step) : Type 0 where
  all : sum_by step_length steps ≤ own + sum_by given_length steps
  given : sum_by given_length steps ≤ found

-- of a found value, or else of steps
found_bounded : (o : Option (List ℕ)) (own found : ℕ) (steps : List Step) → IsBounded own found steps
    → IsBounded own (length (unwrap_or o []) + found) (given_or o steps)
found_bounded (Some x) own found steps bounded = record { all = omega arith; given = omega arith }
found_bounded None own found steps bounded = record { all = omega arith; given = omega arith }

-- of steps concatenated
append_bounded : (a b c d : ℕ) (xs ys : List Step) → IsBounded a c xs → IsBounded b d ys
    → IsBounded (a + b) (c + d) (xs ++ ys)
append_bounded a b c d xs ys first second = search (rules, sum_by-append, step_length, given_length)

-- up to larger bounds
wider : (a b c d : ℕ) {steps : List Step} → IsBounded a c steps → a ≤ b → c ≤ d → IsBounded b d steps
wider a b c d bounded le more = record { all = omega arith; given = omega arith }

-- a step without bytes
lacks_bounded : (q : ℕ) (n : List ℕ) → IsBounded 0 0 (Lacks q n ∷ [])
lacks_bounded q n = record { all = omega arith; given = omega arith }

module _ (look : LookUp) where
  mutual
    -- an item has at most the bytes of its text as its own, and at most a value for each of its names
    item_bounded : (item : Item) (p : ℕ) → IsBounded (length (item_text item))
        (sum_by (length_of look) (names_in_item item)) (item_steps p item look)
    item_bounded (Plain b) p = record { all = omega arith; given = omega arith }
    item_bounded (Escaped b) p = record { all = omega arith; given = omega arith }
    item_bounded (Short n) p =
        wider _ _ _ _ (found_bounded (look n) 0 0 _ (lacks_bounded (p + 1) n)) (omega arith) (omega arith)
    item_bounded (Braced n) p =
        wider _ _ _ _ (found_bounded (look n) 0 0 _ (lacks_bounded (p + 2) n)) (omega arith) (omega arith)
    item_bounded (Optional n) p =
        wider _ _ _ _ (found_bounded (look n) 0 0 [] record { all = omega arith; given = omega arith })
        (omega arith) (omega arith)
    item_bounded (Default n t) p =
        wider _ _ _ _ (found_bounded (look n) _ _ _ (tree_bounded t (p + 3 + length n)))
        (omega (
          arith,
          length-append n (colon ∷ text t ++ closing_brace ∷ []),
          length-append (text t) (closing_brace ∷ []),
        ))
        (omega (arith, sum_by-cons (length_of look) n (names_in t)))

    -- so has a tree
    tree_bounded : (t : Tree) (p : ℕ)
        → IsBounded (length (text t)) (sum_by (length_of look) (names_in t)) (steps_of p t look)
    tree_bounded Empty p = record { all = omega arith; given = omega arith }
    tree_bounded (Then item rest) p =
        rw (
          length-append (item_text item) (text rest),
          sum_by-append (length_of look) (names_in_item item) (names_in rest),
        ) (append_bounded _ _ _ _ _ _ (item_bounded item p)
        (tree_bounded rest (p + length (item_text item))))

-- a value is at most as long as the text and the values of the visited variables
pub value_length_at_most : (t : Tree) (look : LookUp)
    → value_length t look ≤ length (text t) + visited_length t look
value_length_at_most t look = (tree_bounded look t 0).all

-- at most one variable is visited for each name
pub visited_length_at_most : (t : Tree) (look : LookUp)
    → visited_length t look ≤ sum_by (length_of look) (names_in t)
visited_length_at_most t look = (tree_bounded look t 0).given

-- the number of dollars in a text
abbrev dollars : List ℕ → ℕ
dollars = count_by (λ b. b == dollar)

-- the dollars of two texts concatenated are those of both
dollars-append : (x y : List ℕ) → dollars (x ++ y) ≡ dollars x + dollars y
dollars-append x y = sum_by-append _ x y

mutual
  -- an item has no more names than its text has dollars
  item_names_at_most : (item : Item) → length (names_in_item item) ≤ dollars (item_text item)
  item_names_at_most (Plain b) = omega arith
  item_names_at_most (Escaped b) = omega arith
  item_names_at_most (Short n) = omega (arith, dollars-append (dollar ∷ []) n)
  item_names_at_most (Braced n) =
      omega (arith, dollars-append (dollar ∷ []) (opening_brace ∷ n ++ closing_brace ∷ []))
  item_names_at_most (Optional n) =
      omega (arith, dollars-append (dollar ∷ []) (opening_brace ∷ n ++ (question_mark ∷ closing_brace ∷ [])))
  item_names_at_most (Default n t) =
      omega (
        arith,
        names_at_most t,
        dollars-append (dollar ∷ opening_brace ∷ n) (colon ∷ text t ++ closing_brace ∷ []),
        dollars-append (dollar ∷ []) (opening_brace ∷ n),
        dollars-append (colon ∷ []) (text t ++ closing_brace ∷ []),
        dollars-append (text t) (closing_brace ∷ []),
      )

  -- a tree has no more names than its text has dollars
  names_at_most : (t : Tree) → length (names_in t) ≤ dollars (text t)
  names_at_most Empty = omega arith
  names_at_most (Then item rest) =
      omega (
        arith,
        item_names_at_most item,
        names_at_most rest,
        length-append (names_in_item item) (names_in rest),
        dollars-append (item_text item) (text rest),
      )

-- if no value is longer than `longest`, the length of each name's value is at most `longest`
lengths_at_most : (look : LookUp) (longest : ℕ)
    → ((name y : List ℕ) → look name ≡ Some y → length y ≤ longest) → (name : List ℕ)
    → length_of look name ≤ longest
lengths_at_most look longest short name = search (rules, unwrap_or)

-- If no value is longer than `longest`, a value is at most as long as its tree's text and `longest` for each
-- dollar in it.
pub value_length_within : (s : List ℕ) (t : Tree) (look : LookUp) (longest : ℕ) → Spells t s
    → ((name y : List ℕ) → look name ≡ Some y → length y ≤ longest)
    → value_length t look ≤ length s + count_by (λ b. b == dollar) s * longest
value_length_within s t look longest spells short =
    let bound = value_length_at_most t look in
    let values = visited_length_at_most t look in
    let each = sum_by-le (length_of look) longest (names_in t)
    (λ k d inside. lengths_at_most look longest short _) in
    let names : length (names_in t) * longest ≤ dollars (text t) * longest =
    mul-le-mul_right longest (names_at_most t) in
    rw spells.spelled (omega (arith, bound, values, each, names))

-- if no value is longer than `longest`, an output is at most as long as its source and `longest` for each
-- dollar
pub output_at_most : (s x : List ℕ) (look : LookUp) (longest : ℕ)
    → ((name y : List ℕ) → look name ≡ Some y → length y ≤ longest) → Answers s look (Gives x)
    → length x ≤ length s + count_by (λ b. b == dollar) s * longest
output_at_most s x look longest short (t, spells, gives) =
    let exact = value_length_exact 0 t look x gives in
    let bound = value_length_within s t look longest spells short in
    omega (arith, exact, bound)
