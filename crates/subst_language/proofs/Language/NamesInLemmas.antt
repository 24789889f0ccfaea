-- Values under two look-ups that agree on the names in a tree.
use Rattle.std.proofs.Common.{◌≡◌, ℕ, ◌+◌, List, length, refl}
use Rattle.std.specs.List.{All, AllByRecursion}
use Rattle.subst_language.specs.Language.Tree.{Item, Plain, Escaped, Short, Braced, Optional, Default, Tree, Empty, Then, item_text}
use Rattle.subst_language.specs.Language.NamesIn.{names_in_item, names_in}
use Rattle.subst_language.specs.Language.LookUp.{LookUp}
use Rattle.subst_language.specs.Language.Value.{item_value, value}
use Rattle.subst_language.proofs.Language.ListLemmas.{each_parts, each_by_recursion}

module _ (a b : LookUp) where
  -- the two look-ups agree on these names
  abbrev Agree : List (List ℕ) → Type 0
  Agree = AllByRecursion (λ n. a n ≡ b n)

  mutual
    -- if they agree on the names in an item, it has one value
    item_same : (p : ℕ) (item : Item) → Agree (names_in_item item) → item_value p item a ≡ item_value p item b
    item_same p (Plain c) h = refl
    item_same p (Escaped c) h = refl
    item_same p (Short n) h = rw h.0 refl
    item_same p (Braced n) h = rw h.0 refl
    item_same p (Optional n) h = rw h.0 refl
    item_same p (Default n t) h = rw (h.0, tree_same (p + 3 + length n) t h.1) refl

    -- if they agree on the names in a tree, it has one value
    tree_same : (p : ℕ) (t : Tree) → Agree (names_in t) → value p t a ≡ value p t b
    tree_same p Empty h = refl
    tree_same p (Then item rest) h =
        let parts = each_parts (λ n. a n ≡ b n) (names_in_item item) (names_in rest) h in
        rw (item_same p item parts.0, tree_same (p + length (item_text item)) rest parts.1) refl

-- a tree has one value under two look-ups that agree on each of its names
pub value_same : (p : ℕ) (t : Tree) (a b : LookUp) → All (λ n. a n ≡ b n) (names_in t)
    → value p t a ≡ value p t b
value_same p t a b each = tree_same a b p t (each_by_recursion (λ n. a n ≡ b n) (names_in t) each)
