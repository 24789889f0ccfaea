-- The number of parts of trees: of trees concatenated, of runs of plain bytes, and limits.
use Rattle.std.proofs.Common.{◌≡◌, ℕ, ◌+◌, ◌<◌, ◌≤◌, Bool, true, false, Option, Some, None, List, [], ◌∷◌, ◌++◌, length, refl, length-append, arith}
use Rattle.subst_language.specs.Language.Tree.{Item, Plain, Escaped, Short, Braced, Optional, Default, Tree, Empty, Then, item_text, text}
use Rattle.subst_language.specs.Language.LookUp.{LookUp}
use Rattle.subst_language.specs.Language.Counts.{is_plain, if_missing, item_visited_count, visited_count_after, visited_count}
use Rattle.subst_language.specs.Lemmas.PlainEnds.{ends_plain, HasNoPlainEnds}
use Rattle.subst_language.specs.Language.Bytes.{closing_brace, colon}
use Rattle.subst_language.proofs.Language.PlainLemmas.{plains}
use Rattle.subst_language.specs.Language.Join.{join}

-- an expansion of two trees concatenated visits the parts of the first, then those of the second
pub visited_count_after-join : (after : Bool) (t u : Tree) (look : LookUp)
    → visited_count_after after (join t u) look
    ≡ visited_count_after after t look + visited_count_after (ends_plain after t) u look
visited_count_after-join after Empty u look = omega arith
visited_count_after-join after (Then item rest) u look =
    omega (arith, visited_count_after-join (is_plain item) rest u look)

-- two trees concatenated end like the second after the first
pub ends_plain-join : (after : Bool) (t u : Tree)
    → ends_plain after (join t u) ≡ ends_plain (ends_plain after t) u
ends_plain-join after Empty u = refl
ends_plain-join after (Then item rest) u = ends_plain-join (is_plain item) rest u

-- after a plain byte, a run of plain bytes is no part
visited_count_after-plains : (x : List ℕ) (look : LookUp) → visited_count_after true (plains x) look ≡ 0
visited_count_after-plains [] look = refl
visited_count_after-plains (b ∷ x) look = omega (arith, visited_count_after-plains x look)

-- a run of plain bytes is one part
pub visited_count-plains : (x : List ℕ) (look : LookUp) → 0 < length x → visited_count (plains x) look ≡ 1
visited_count-plains [] look some = absurd (omega arith)
visited_count-plains (b ∷ x) look some = omega (arith, visited_count_after-plains x look)

-- an item that isn't plain has no plain ends
pub no_plain_ends : (item : Item) → is_plain item ≡ false → HasNoPlainEnds (Then item Empty)
no_plain_ends item not_plain = (not_plain, not_plain)

-- a tree with no plain ends ends with no plain item
pub ends_plain-apart : (after : Bool) (t : Tree) → HasNoPlainEnds t → ends_plain after t ≡ false
ends_plain-apart after Empty ends = absurd ends
ends_plain-apart after (Then item rest) ends = ends.1

-- the parts of a tree with no plain ends are counted alike, whatever it comes after
pub visited_count_after-apart : (after : Bool) (t : Tree) (look : LookUp) → HasNoPlainEnds t
    → visited_count_after after t look ≡ visited_count t look
visited_count_after-apart after Empty look ends = absurd ends
visited_count_after-apart after (Then (Plain b) rest) look ends = let plain = ends.0 in absurd cc
visited_count_after-apart after (Then (Escaped b) rest) look ends = refl
visited_count_after-apart after (Then (Short n) rest) look ends = refl
visited_count_after-apart after (Then (Braced n) rest) look ends = refl
visited_count_after-apart after (Then (Optional n) rest) look ends = refl
visited_count_after-apart after (Then (Default n t) rest) look ends = refl

-- a number that counts only if no value was found is at most itself
missing_at_most : (found : Option (List ℕ)) (n m : ℕ) → n ≤ m → if_missing found n ≤ m
missing_at_most (Some x) n m le = omega arith
missing_at_most None n m le = le

-- no more parts are visited than there are, and there are no more than bytes
pub record AreFew (visited parts bytes : ℕ) : Type 0 where
  pub visited_at_most : visited ≤ parts
  pub parts_at_most : parts ≤ bytes

module _ (look : LookUp) where
  mutual
    -- of an item
    item_parts_few : (after : Bool) (item : Item) → AreFew (item_visited_count after item look)
        (item_visited_count after item (λ name. None)) (length (item_text item))
    item_parts_few true (Plain b) = record { visited_at_most = omega arith; parts_at_most = omega arith }
    item_parts_few false (Plain b) = record { visited_at_most = omega arith; parts_at_most = omega arith }
    item_parts_few after (Escaped b) = record { visited_at_most = omega arith; parts_at_most = omega arith }
    item_parts_few after (Short n) = record { visited_at_most = omega arith; parts_at_most = omega arith }
    item_parts_few after (Braced n) = record { visited_at_most = omega arith; parts_at_most = omega arith }
    item_parts_few after (Optional n) = record { visited_at_most = omega arith; parts_at_most = omega arith }
    item_parts_few after (Default n t) =
        let inner = parts_few false t in
        record {
          visited_at_most = omega (arith, missing_at_most (look n) _ _ inner.visited_at_most);
          parts_at_most =
              omega (
                arith,
                inner.parts_at_most,
                length-append n (colon ∷ text t ++ closing_brace ∷ []),
                length-append (text t) (closing_brace ∷ []),
              );
        }

    -- of a tree
    pub parts_few : (after : Bool) (t : Tree) → AreFew (visited_count_after after t look)
        (visited_count_after after t (λ name. None)) (length (text t))
    parts_few after Empty = record { visited_at_most = omega arith; parts_at_most = omega arith }
    parts_few after (Then item rest) =
        let first = item_parts_few after item in
        let more = parts_few (is_plain item) rest in
        let long = length-append (item_text item) (text rest) in
        record { visited_at_most = omega arith; parts_at_most = omega arith }
