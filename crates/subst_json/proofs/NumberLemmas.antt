-- Numbers in the reader's range.
use Rattle.std.proofs.Common.{◌≡◌, ℕ, ◌-◌, List, length, drop, Bool, true, false, cond, ne_eqb, Option, Some, refl, subst, arith}
use Rattle.std.proofs.lemmas.List.{take_all, length-drop}
use Rattle.std.specs.Prelude.{slice_index, slice_range}
use Rattle.std.specs.Float.{binary64, float_is_finite}
use Rattle.fast_float.specs.Text.{Parts, scan, nearest}
use Rattle.serde_json.specs.Data.{Num, float}
use Rattle.serde_json.specs.Read.{float_of, number_from, number_of}

either : (b : Bool) (n : Num) (o : Option Num) → (m : Num) × (o ≡ Some m)
    → (k : Num) × (cond b (Some n) o ≡ Some k)
either true n o h = (n, refl)
either false n o h = h

-- a number whose nearest float is finite is in range
pub in_range : (sign : Bool) (p : Parts) → float_is_finite (nearest binary64 sign p) ≡ true
    → (n : Num) × (number_from sign p ≡ Some n)
in_range false p is = either _ _ (float_of false p) (float (nearest binary64 false p), rw is refl)
in_range true p is = either _ _ (float_of true p) (float (nearest binary64 true p), rw is refl)

-- a minus sign is the first byte of a number
pub with_minus : (s : List ℕ) → slice_index s 0 ≡ 45
    → (n : Num) × (number_from true (scan (slice_range s 1 (length s))) ≡ Some n)
    → (n : Num) × (number_of s ≡ Some n)
unfolding number_of
with_minus s is (n, h) =
    let all = take_all (length s - 1) (drop 1 s) (omega (arith, length-drop 1 s)) in
    (n, rw is (subst (λ t. number_from true (scan t) ≡ Some n) all h))

pub without_minus : (s : List ℕ) → ¬ (slice_index s 0 ≡ 45)
    → (n : Num) × (number_from false (scan s) ≡ Some n)
    → (n : Num) × (number_of s ≡ Some n)
unfolding number_of
without_minus s other (n, h) = (n, rw (ne_eqb (slice_index s 0) 45 other) h)
