-- Names in a list, and in the set that is built of it.
use Rattle.std.proofs.Common.{rules, ◌≡◌, ◌↔◌, ◌||◌, Bool, true, false, ℕ, List, [], ◌∷◌, IsTrue, Ordering, Less, Equal, Greater, refl, sym, ap, ◌∙◌}
use Rattle.std.proofs.Math.Bool.{or_assoc, or_comm}
use Rattle.std.proofs.lemmas.List.Folds.{Any-from_list_any, list_any-from_Any}
use Rattle.std.proofs.lemmas.Map.Text.{is_eq-slice_cmp}
use Rattle.std.proofs.lemmas.Slice.Eq.{bytes_eq-Decides}
use Rattle.std.specs.Borrow.{Bor}
use Rattle.std.specs.BTreeMap.{is_at}
use Rattle.std.specs.BTreeSet.{insert_key}
use Rattle.std.specs.Cmp.Lexicographic.{slice_cmp}
use Rattle.std.specs.List.{Any, list_any}
use Rattle.std.specs.Ordering.{nat_cmp, is_eq, match_ordering}
use Rattle.subst_foreign.specs.Foreign.{IsListed}

-- whether a name is in the list
abbrev pub is_listed : List ℕ → List (Bor (List ℕ)) → Bool
is_listed name = list_any (is_at (λ key. slice_cmp nat_cmp name key.now))

-- a key is the name if they compare as equal
key_iff : (name : List ℕ) (key : Bor (List ℕ)) → IsTrue (is_at (λ k. slice_cmp nat_cmp name k.now) key)
    ↔ (key.now ≡ name)
key_iff name key = search (rules, is_eq-slice_cmp, bytes_eq-Decides)

-- a name is in the list if it compares as equal to one of its keys
pub listed_iff : (name : List ℕ) (keys : List (Bor (List ℕ))) → IsTrue (is_listed name keys) ↔ IsListed keys name
listed_iff name keys =
    let test = is_at (λ (k : Bor (List ℕ)). slice_cmp nat_cmp name k.now) in (
      λ is. of (Any-from_list_any test keys is),
      λ (k, key, within, at, same). list_any-from_Any test keys (k, key, within, at, (key_iff name key).1 same),
    )
  where
    of : Any (λ key. is_at (λ k. slice_cmp nat_cmp name k.now) key ≡ true) keys → IsListed keys name
    of (k, key, within, at, same) = (k, key, within, at, (key_iff name key).0 same)

or_again : (a b : Bool) → (a || b) ≡ ((a || b) || a)
or_again true b = refl
or_again false true = refl
or_again false false = refl

-- after an insertion the set has the name and all others
pub listed-insert : (name : List ℕ) (keys : List (Bor (List ℕ))) (key : Bor (List ℕ))
    → is_listed name (insert_key (λ x y. slice_cmp nat_cmp x.now y.now) keys key)
    ≡ (is_listed name keys || is_at (λ k. slice_cmp nat_cmp name k.now) key)
listed-insert name [] key = or_comm (is_at (λ (k : Bor (List ℕ)). slice_cmp nat_cmp name k.now) key) false
listed-insert name (x ∷ keys) key = of (slice_cmp nat_cmp key.now x.now) refl (listed-insert name keys key)
  where
    of : (o : Ordering) → slice_cmp nat_cmp key.now x.now ≡ o
        → is_listed name (insert_key (λ x y. slice_cmp nat_cmp x.now y.now) keys key)
        ≡ (is_listed name keys || is_at (λ k. slice_cmp nat_cmp name k.now) key)
        → is_listed name (match_ordering o (key ∷ x ∷ keys) (x ∷ keys)
        (x ∷ insert_key (λ x y. slice_cmp nat_cmp x.now y.now) keys key))
        ≡ (is_listed name (x ∷ keys) || is_at (λ k. slice_cmp nat_cmp name k.now) key)
    of Less is more = or_comm _ (is_listed name (x ∷ keys))
    of Equal is more =
        let same : key.now ≡ x.now = (bytes_eq-Decides key.now x.now).0
        (sym (is_eq-slice_cmp key.now x.now) ∙ ap is_eq is) in
        rw same (or_again _ (is_listed name keys))
    of Greater is more = rw more (sym (or_assoc _ (is_listed name keys) _))

-- lists with the same membership test have the same names
pub same_listed : (name : List ℕ) (x y : List (Bor (List ℕ))) → is_listed name x ≡ is_listed name y
    → IsListed x name ↔ IsListed y name
same_listed name x y same = search (rules, listed_iff)
