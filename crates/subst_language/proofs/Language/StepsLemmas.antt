-- The steps of trees, and the trees' values by them.
use Rattle.std.proofs.lemmas.Grind.{common_steps}
use Rattle.std.proofs.Common.{rules, ◌≡◌, ℕ, ◌+◌, ◌≤◌, List, [], ◌∷◌, ◌++◌, length, map, sum_by, Option, Some, None, refl, sym, ap, ◌∙◌, subst, append_assoc, length-append, add_assoc, add-zero, arith}
use Rattle.std.proofs.lemmas.List.Sums.{sum_by-cons}
use Rattle.std.specs.List.{filter_map}
use Rattle.subst_language.specs.Language.Join.{join}
use Rattle.subst_language.specs.Language.LookUp.{LookUp}
use Rattle.subst_language.specs.Language.Steps.{Step, Own, Given, Lacks, steps_value, given_or, item_steps, steps_of}
use Rattle.subst_language.specs.Language.Tree.{Item, Plain, Escaped, Short, Braced, Optional, Default, Tree, Empty, Then, item_text, text}
use Rattle.subst_language.specs.Language.Value.{Value, Bytes, Missing, joined, found_or, item_value, value}
use Rattle.subst_language.specs.Language.ValueLength.{step_length}
use Rattle.subst_language.specs.Language.Variables.{Variable, required, lacked}
use Rattle.subst_language.specs.Language.Written.{steps_written}
use Rattle.subst_language.proofs.Language.PlainLemmas.{plains}
use Rattle.subst_language.proofs.Language.ValueLemmas.{joined_assoc, joined-left, joined-right}

-- the steps of two trees concatenated are those of both
pub steps_of-join : (p : ℕ) (t u : Tree) (look : LookUp)
    → steps_of p (join t u) look ≡ steps_of p t look ++ steps_of (p + length (text t)) u look
steps_of-join p Empty u look = rw add-zero refl
steps_of-join p (Then item rest) u look =
    let q = p + length (item_text item) in
    rw (length-append, ← add_assoc, steps_of-join q rest u look, append_assoc) refl

-- each plain byte is a step
pub steps_of-plains : (p : ℕ) (x : List ℕ) (look : LookUp) → steps_of p (plains x) look ≡ map Own x
steps_of-plains p [] look = refl
steps_of-plains p (b ∷ x) look = ap (λ steps. Own b ∷ steps) (steps_of-plains (p + 1) x look)

-- the value of two lists of steps concatenated is their values concatenated
pub steps_value-append : (xs ys : List Step)
    → steps_value (xs ++ ys) ≡ joined (steps_value xs) (steps_value ys)
steps_value-append [] ys = sym (joined-left (steps_value ys))
steps_value-append (Own b ∷ xs) ys =
    rw (steps_value-append xs ys) (sym (joined_assoc (Bytes (b ∷ [])) (steps_value xs) (steps_value ys)))
steps_value-append (Given x ∷ xs) ys =
    rw (steps_value-append xs ys) (sym (joined_assoc (Bytes x) (steps_value xs) (steps_value ys)))
steps_value-append (Lacks position name ∷ xs) ys = refl

-- the value of a found value, or else of steps
pub given_value : (found : Option (List ℕ)) (steps : List Step)
    → found_or found (steps_value steps) ≡ steps_value (given_or found steps)
given_value (Some x) steps = sym (joined-right (Bytes x))
given_value None steps = refl

module _ (look : LookUp) where
  mutual
    -- the value of an item is that of its steps
    item_value-steps : (item : Item) (p : ℕ) → item_value p item look ≡ steps_value (item_steps p item look)
    item_value-steps (Plain b) p = refl
    item_value-steps (Escaped b) p = refl
    item_value-steps (Short n) p = given_value (look n) (Lacks (p + 1) n ∷ [])
    item_value-steps (Braced n) p = given_value (look n) (Lacks (p + 2) n ∷ [])
    item_value-steps (Optional n) p = given_value (look n) []
    item_value-steps (Default n t) p =
        ap (found_or (look n)) (value-steps t (p + 3 + length n)) ∙ given_value (look n) _

    -- the value of a tree is that of its steps
    pub value-steps : (t : Tree) (p : ℕ) → value p t look ≡ steps_value (steps_of p t look)
    value-steps Empty p = refl
    value-steps (Then item rest) p =
        rw (item_value-steps item p, value-steps rest (p + length (item_text item)))
        (sym (steps_value-append (item_steps p item look) _))

-- if a value joined after bytes is bytes, the value is bytes
bytes_after : (x : List ℕ) (v : Value) (z : List ℕ) → joined (Bytes x) v ≡ Bytes z
    → (y : List ℕ) × (v ≡ Bytes y)
bytes_after x (Bytes y) z is = (y, refl)
bytes_after x (Missing position name) z is = absurd cc

-- If the value is bytes, these are written and counted, and nothing is missing. Otherwise its missing
-- variable is the first of all that are missing.
abbrev pub Tells : List Step → Value → Type 0
Tells steps (Bytes x) =
    (steps_written steps ≡ x) × (sum_by step_length steps ≡ length x) × (filter_map lacked steps ≡ [])
Tells steps (Missing position name) =
    (more : List Variable) × (filter_map lacked steps ≡ required position name ∷ more)

-- a step with bytes, before others
tells_more : (x : List ℕ) (step : Step) (rest : List Step) (v : Value)
    → steps_written (step ∷ rest) ≡ x ++ steps_written rest → step_length step ≡ length x
    → lacked step ≡ None → Tells rest v → Tells (step ∷ rest) (joined (Bytes x) v)
tells_more x step rest (Bytes y) is long none (written, count, missing) =
    grind (arith, common_steps, sum_by-cons, step_length, length-append)
tells_more x step rest (Missing position name) is long none (more, missing) = (more, rw none missing)

-- the value of steps
steps_tell : (steps : List Step) → Tells steps (steps_value steps)
steps_tell [] = (refl, refl, refl)
steps_tell (Own b ∷ rest) =
    tells_more (b ∷ []) (Own b) rest (steps_value rest) refl refl refl (steps_tell rest)
steps_tell (Given x ∷ rest) = tells_more x (Given x) rest (steps_value rest) refl refl refl (steps_tell rest)
steps_tell (Lacks position name ∷ rest) = (filter_map lacked rest, refl)

-- the value of a tree
pub value_tells : (p : ℕ) (t : Tree) (look : LookUp) → Tells (steps_of p t look) (value p t look)
value_tells p t look =
    let steps = steps_of p t look in subst (Tells steps) (sym (value-steps look t p)) (steps_tell steps)

-- if the value of steps is bytes, these are written
pub written_whole : (steps : List Step) (x : List ℕ) → steps_value steps ≡ Bytes x → steps_written steps ≡ x
written_whole steps x gives = (subst (Tells steps) gives (steps_tell steps)).0

-- and then more is written after them
pub steps_written-append : (xs ys : List Step) (x : List ℕ) → steps_value xs ≡ Bytes x
    → steps_written (xs ++ ys) ≡ steps_written xs ++ steps_written ys
steps_written-append [] ys x gives = refl
steps_written-append (Own b ∷ xs) ys x gives =
    let (y, more) = bytes_after (b ∷ []) (steps_value xs) x gives in
    ap (λ z. b ∷ z) (steps_written-append xs ys y more)
steps_written-append (Given z ∷ xs) ys x gives =
    let (y, more) = bytes_after z (steps_value xs) x gives in
    ap (λ w. z ++ w) (steps_written-append xs ys y more)
    ∙ sym (append_assoc z (steps_written xs) (steps_written ys))
steps_written-append (Lacks position name ∷ xs) ys x gives = absurd cc

-- with more steps, no less is written
pub written_front : (xs ys : List Step) → length (steps_written xs) ≤ length (steps_written (xs ++ ys))
written_front [] ys = omega arith
written_front (Own b ∷ xs) ys = omega (arith, written_front xs ys)
written_front (Given x ∷ xs) ys = search (rules, length-append, steps_written, written_front xs ys)
written_front (Lacks position name ∷ xs) ys = omega arith

-- no more is written than is counted
pub written_at_most : (steps : List Step) → length (steps_written steps) ≤ sum_by step_length steps
written_at_most [] = omega arith
written_at_most (Own b ∷ rest) = omega (arith, written_at_most rest, sum_by-cons step_length (Own b) rest)
written_at_most (Given x ∷ rest) =
    grind (arith, common_steps, sum_by-cons, step_length, length-append, steps_written, written_at_most rest)
written_at_most (Lacks position name ∷ rest) = omega arith
