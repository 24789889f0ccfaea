-- The plain bytes that a search skips.
use Rattle.std.proofs.Common.{◌≡◌, false, ℕ, ◌<◌, ◌≤◌, zero, suc, List, [], ◌∷◌, length, Option, Some, None, IfSome, IfNone, refl, sym, subst, get_or, take, arith}
use Rattle.std.proofs.lemmas.Bool.Decides.{nat_tests}
use Rattle.std.proofs.lemmas.Grind.{common_steps}
use Rattle.std.proofs.lemmas.List.{take_all}
use Rattle.std.proofs.lemmas.List.Sums.{fails_before_first}
use Rattle.std.proofs.lemmas.List.Quantifiers.{position-Some}
use Rattle.std.specs.List.{position, position_or_len, AllByRecursion}
use Rattle.subst_foreign.specs.Reading.{IsPlainAt, is_special_inside}

-- a property of all bytes before an index holds for each byte of that prefix
each_before : (P : ℕ → Type 0) (x : List ℕ) (n : ℕ) → n ≤ length x → ((k : ℕ) → k < n → P (get_or x k 0))
    → AllByRecursion P (take n x)
each_before P x zero inside each = tt
each_before P [] (suc n) inside each = tt
each_before P (b ∷ x) (suc n) inside each =
    (each 0 (omega arith), each_before P x n (omega arith) (λ k below. each (suc k) (omega arith)))

-- no special byte is before the first one
plain_before_special : (x : List ℕ) (n : ℕ) → n ≤ length x
    → ((k : ℕ) → k < n → is_special_inside (get_or x k 0) ≡ false) → AllByRecursion (IsPlainAt 1) (take n x)
plain_before_special x n inside none = each_before (IsPlainAt 1) x n inside (λ k below.
    let first = none k below in (
      grind (arith, nat_tests, first),
      grind (arith, nat_tests, first),
      λ within. (grind (arith, nat_tests, first), grind (arith, nat_tests, first)),
    ))

pub plain_found : (depth : ℕ) (x : List ℕ) (found : Option ℕ) → ¬ (depth ≡ 0)
    → found ≡ position is_special_inside x → IfSome found (λ at. AllByRecursion (IsPlainAt depth) (take at x))
plain_found zero x found inside is = absurd (inside refl)
plain_found (suc depth) x None inside is = tt
plain_found (suc depth) x (Some at) inside is =
    let first = position-Some is_special_inside x at 0 (sym is) in
    plain_before_special x at (omega (arith, first.0)) first.2

pub plain_none : (depth : ℕ) (x : List ℕ) (found : Option ℕ) → ¬ (depth ≡ 0)
    → found ≡ position is_special_inside x → IfNone found (AllByRecursion (IsPlainAt depth) x)
plain_none zero x found inside is = absurd (inside refl)
plain_none (suc depth) x (Some at) inside is = tt
plain_none (suc depth) x None inside is =
    let none = sym is in
    let past : length x ≤ position_or_len is_special_inside x = grind (arith, common_steps) in
    subst (AllByRecursion (IsPlainAt 1)) (take_all (length x) x (omega arith))
    (plain_before_special x (length x) (omega arith)
    (λ j below. fails_before_first is_special_inside x j 0 (omega (arith, past))))
