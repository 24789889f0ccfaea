-- The values of an index after a pair is added.
use denote.Ref.{Bor}
use Rattle.std.proofs.Common.{◌≡◌, ℕ, ◌+◌, ◌<◌, Bool, true, false, List, [], ◌∷◌, ◌++◌, if◌then◌else◌, get_or, length, take, Option, Some, None, refl, ap, arith}
use Rattle.std.proofs.lemmas.Grind.{common_steps}
use Rattle.std.proofs.lemmas.List.{take_more}
use Rattle.std.proofs.lemmas.Map.Text.{btree_map_updates_str}
use Rattle.std.specs.BTreeMap.{BTreeMap, UpdatesBy}
use Rattle.std.specs.Cmp.Lexicographic.{bytes_decides, nat_list_eq_equiv, slice_cmp}
use Rattle.std.specs.Option.{option_map, option_or, unwrap_or}
use Rattle.std.specs.Ordering.{nat_cmp}
use Rattle.std.specs.Str.{bytes_eq}
use Rattle.subst_language.specs.Maps.{btree_get_by_borrowed_text}
use Rattle.subst_c.specs.Index.{indexed_value}
use Rattle.subst_c.specs.Pairs.{pair_value}
use Rattle.subst_c.specs.declared.pairs.Pair.{Pair}

-- the value that is inserted if there was none, or the one that there was
put_if_new : (o : Option (Bor (List ℕ))) (value w : Bor (List ℕ)) → w ≡ unwrap_or o value
    → Some w.now ≡ option_or (option_map (λ v. v.now) o) (Some value.now)
put_if_new None value w is = ap (λ v. Some v.now) is
put_if_new (Some v) value w is = ap (λ v. Some v.now) is

-- a name without a value gets this one, and the values of other names are unchanged
pub adds_if_new : (m n : BTreeMap (Bor (List ℕ)) (Bor (List ℕ))) (name value w : Bor (List ℕ))
    → UpdatesBy (λ x y. slice_cmp nat_cmp x.now y.now) (λ k. slice_cmp nat_cmp name.now k.now) m n (Some w)
    → w ≡ unwrap_or (btree_get_by_borrowed_text m name.now) value → (other : List ℕ)
    → indexed_value n other ≡ option_or (indexed_value m other)
    (if bytes_eq other name.now then Some value.now else None)
adds_if_new m n name value w updates is other =
    of (bytes_eq name.now other) refl
  where
    after : btree_get_by_borrowed_text n other
        ≡ (if bytes_eq name.now other then Some w else btree_get_by_borrowed_text m other)
    after = btree_map_updates_str name.now m n (Some w) updates other

    turned : bytes_eq other name.now ≡ bytes_eq name.now other
    turned = nat_list_eq_equiv.symm other name.now

    of : (b : Bool) → bytes_eq name.now other ≡ b → indexed_value n other ≡ option_or (indexed_value m other)
        (if bytes_eq other name.now then Some value.now else None)
    of true same =
        let here = put_if_new (btree_get_by_borrowed_text m name.now) value w is in
        let equal : name.now ≡ other = (bytes_decides name.now other).0 same in
        grind (arith, common_steps, after, turned, here, equal, same)
    of false differ = grind (arith, common_steps, after, turned, differ)

-- the value of a name once a pair is appended: that of the pair if there was none
pub pair_value-append : (pairs : List Pair) (pair : Pair) (name : List ℕ)
    → pair_value (pairs ++ pair ∷ []) name ≡ option_or (pair_value pairs name)
    (if bytes_eq name pair.name.now then Some pair.value.now else None)
pair_value-append [] pair name = grind (arith, common_steps)
pair_value-append (first ∷ pairs) pair name =
    grind (arith, common_steps, pair_value-append pairs pair name)

-- the value of a name in the first `at + 1` pairs, from the one in the first `at`
pub pair_value-take : (pairs : List Pair) (at : ℕ) (d : Pair) (name : List ℕ) → at < length pairs
    → pair_value (take (at + 1) pairs) name ≡ option_or (pair_value (take at pairs) name)
    (if bytes_eq name (get_or pairs at d).name.now then Some (get_or pairs at d).value.now else None)
pair_value-take pairs at d name below =
    rw (take_more pairs at d below) (pair_value-append (take at pairs) (get_or pairs at d) name)
