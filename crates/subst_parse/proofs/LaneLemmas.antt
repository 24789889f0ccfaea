-- Vectors of 32 bytes, and masks of the bytes that are outside a class.
use Rattle.std.proofs.Common.{◌≡◌, ◌==◌, ◌||◌, true, false, ℕ, ◌+◌, ◌<◌, ◌≤◌, Bool, cond, List, length, get_or, drop, refl, ap, sym, ◌∙◌, subst, arith, bit_or}
use Rattle.std.specs.Int.{bit_at}
use Rattle.std.proofs.Math.Seq.{drop-cons}
use Rattle.std.proofs.lemmas.Nat.Bits.{bit_at-zero}
use Rattle.std.proofs.lemmas.List.{get_or-drop}
use Rattle.subst_language.specs.Language.Name.{BeginsWithNo}
use Rattle.subst_parse.specs.ByteRun.{IsRun}
use Rattle.subst_parse.specs.Lanes.{HasTest, HasOutside, MarksOutside}
use Rattle.subst_language.specs.Language.Bytes.{IsPlain, dollar, backslash, opening_brace, closing_brace}
use Rattle.subst_parse.specs.Inner.{IsInner}
use Rattle.subst_parse.proofs.ByteRunLemmas.{run_of, plain_of}

-- 255 if one of two tests passes
pub either_lane : (a b : Bool) → bit_or (cond a 255 0) (cond b 255 0) ≡ cond (a || b) 255 0
either_lane true true = refl
either_lane true false = refl
either_lane false true = refl
either_lane false false = refl

outside_lane : (P : ℕ → Type 0) (x : Bool) (lane b : ℕ) → lane ≡ cond x 255 0
    → (x ≡ true → ¬ (P b)) → (x ≡ false → P b) → (lane < 128 → P b) × (128 ≤ lane → ¬ (P b))
outside_lane P true lane b is not_in within = (λ low. absurd (omega arith), λ high. not_in refl)
outside_lane P false lane b is not_in within = (λ low. within refl, λ high. absurd (omega arith))

-- bytes that pass a test are those outside a class
pub outside_by_test : (P : ℕ → Type 0) (test : ℕ → Bool) {bytes lanes : List ℕ}
    → ((b : ℕ) → test b ≡ true → ¬ (P b)) → ((b : ℕ) → test b ≡ false → P b)
    → HasTest test bytes lanes → HasOutside P bytes lanes
outside_by_test P test {bytes} {lanes} not_in within h =
    let lane = λ (k : ℕ) (below : k < 32). outside_lane P (test (get_or bytes k 0)) (get_or lanes k 0)
    (get_or bytes k 0) (h.each k below) (not_in _) (within _) in
    record {
      long = h.long;
      inside = λ k below. (lane k below).0;
      outside = λ k below. (lane k below).1;
    }

-- the byte at a position is outside the class
begins_outside : (P : ℕ → Type 0) (s : List ℕ) (at : ℕ) → at < length s → ¬ (P (get_or s at 0))
    → BeginsWithNo P (drop at s)
begins_outside P s at within outside =
    let front = drop-cons s at 0 within in
    subst (BeginsWithNo P) (sym front) outside

-- the bytes before the lowest bit of a mask are a run
pub run_to_lowest : {P : ℕ → Type 0} {s : List ℕ} {from to mask : ℕ} (low : ℕ) → MarksOutside P s from to mask
    → to ≤ length s → bit_at mask low ≡ 1 → ((k : ℕ) → k < low → bit_at mask k ≡ 0)
    → IsRun P s from (from + low) × BeginsWithNo P (drop (from + low) s) × (from + low < to)
run_to_lowest {P} {s} {from} {to} {mask} low marks within set below =
    let found = marks.outside low set in (
      run_of P s from (from + low) (omega arith) (omega (arith, found.0))
          (λ k before. let short : k < low = omega arith in
          subst P (sym (get_or-drop from s k 0)) (marks.inside k (omega (arith, found.0)) (below k short))),
      begins_outside P s (from + low) (omega (arith, found.0)) found.1,
      found.0,
    )

-- a mask without a bit is that of a run
pub run_unmarked : {P : ℕ → Type 0} {s : List ℕ} {from to mask : ℕ} → MarksOutside P s from to mask
    → from ≤ to → to ≤ length s → mask ≡ 0 → IsRun P s from to
run_unmarked {P} {s} {from} {to} {mask} marks ordered within none =
    run_of P s from to ordered within
    (λ k before. subst P (sym (get_or-drop from s k 0))
    (marks.inside k (omega arith) (ap (λ m. bit_at m k) none ∙ bit_at-zero k)))

-- the tests of the two classes
pub marked_not_plain : (b : ℕ) → (b == dollar || b == backslash) ≡ true → ¬ (IsPlain b)
marked_not_plain b marked plain = grind arith

pub unmarked_plain : (b : ℕ) → (b == dollar || b == backslash) ≡ false → IsPlain b
unmarked_plain b unmarked = plain_of b (λ is. cc)

pub marked_not_inner : (b : ℕ)
    → ((b == dollar || b == backslash) || (b == opening_brace || b == closing_brace)) ≡ true → ¬ (IsInner b)
marked_not_inner b marked inner = grind arith

pub unmarked_inner : (b : ℕ)
    → ((b == dollar || b == backslash) || (b == opening_brace || b == closing_brace)) ≡ false → IsInner b
unmarked_inner b unmarked = grind arith
