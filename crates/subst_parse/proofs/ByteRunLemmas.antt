-- Runs of bytes with a property.
use Rattle.std.proofs.Common.{◌≡◌, ◌==◌, ◌||◌, true, ℕ, zero, suc, ◌+◌, ◌-◌, ◌<◌, ◌≤◌, List, [], ◌∷◌, ◌++◌, length, get_or, take, drop, slice_range, refl, ap, ◌∙◌, subst, append_assoc, length-append, arith}
use Rattle.std.proofs.Math.Seq.{take-append_seam}
use Rattle.std.proofs.lemmas.List.{drop_more}
use Rattle.subst_parse.specs.ByteRun.{IsRun}
use Rattle.subst_language.specs.Language.Bytes.{IsPlain}
use Rattle.subst_language.specs.Language.Bytes.{backslash, dollar}
use Rattle.subst_language.proofs.Language.ListLemmas.{each_append}

run_by_count : (P : ℕ → Type 0) (s : List ℕ) (from count : ℕ) → from + count ≤ length s
    → ((k : ℕ) → k < count → P (get_or (drop from s) k 0))
    → IsRun P s from (from + count)
run_by_count P s from zero fits each = record {
  run = [];
  each = tt;
  spelled = ap (λ n. drop n s) (omega arith);
  ends = refl;
}
run_by_count P s from (suc count) fits each =
    let inside : from < length s = omega arith in
    let front = drop_more s from 0 inside in
    let first : P (get_or s from 0) = subst P (rw front refl) (each 0 (omega arith)) in
    let rest = run_by_count P s (from + 1) count (omega arith)
    (λ k below. subst P (rw front refl) (each (suc k) (omega arith))) in
    record {
      run = get_or s from 0 ∷ rest.run;
      each = (first, rest.each);
      spelled = front
          ∙ ap (λ x. get_or s from 0 ∷ x) (rest.spelled ∙ ap (λ n. rest.run ++ drop n s) (omega arith));
      ends = omega (arith, rest.ends);
    }

-- bytes that each have the property are a run
pub run_of : (P : ℕ → Type 0) (s : List ℕ) (from to : ℕ) → from ≤ to → to ≤ length s
    → ((k : ℕ) → k < to - from → P (get_or (drop from s) k 0))
    → IsRun P s from to
run_of P s from to ordered within each =
    subst (λ n. IsRun P s from n) (omega arith) (run_by_count P s from (to - from) (omega arith) each)

-- a byte that a search for dollars and backslashes skips is plain
pub plain_of : (b : ℕ) → ¬ ((b == dollar || b == backslash) ≡ true) → IsPlain b
plain_of b no_match = (λ is. no_match (rw is refl), λ is. no_match (rw is refl))

-- the bytes from a run's start to its end are the run
pub slice_of_run : {P : ℕ → Type 0} {s : List ℕ} {from to : ℕ} (r : IsRun P s from to)
    → slice_range s from to ≡ r.run
slice_of_run {P} {s} {from} {to} r =
    let count : to - from ≡ length r.run = omega (arith, r.ends) in
    ap (λ n. take n (drop from s)) count
    ∙ ap (take (length r.run)) r.spelled
    ∙ take-append_seam r.run (drop to s)

-- no bytes are a run
pub run_nothing : (P : ℕ → Type 0) (s : List ℕ) (at : ℕ) → IsRun P s at at
run_nothing P s at = record { run = []; each = tt; spelled = refl; ends = omega arith }

-- a run from the start of the source ends within the source
pub run_within : {P : ℕ → Type 0} {s : List ℕ} {to : ℕ} → IsRun P s 0 to → to ≤ length s
run_within {s = s} {to = to} r = omega (arith, r.ends, ap length r.spelled, length-append r.run (drop to s))

-- one byte with the property is a run
pub run_one : {P : ℕ → Type 0} {s : List ℕ} {at b : ℕ} → P b → drop at s ≡ b ∷ drop (at + 1) s
    → IsRun P s at (at + 1)
run_one {P} {s} {at} {b} is reads = record { run = b ∷ []; each = (is, tt); spelled = reads; ends = refl }

-- two runs concatenated
pub run_append : {P : ℕ → Type 0} {s : List ℕ} {from at to : ℕ} → IsRun P s from at → IsRun P s at to
    → IsRun P s from to
run_append {P} {s} {from} {at} {to} a b = record {
  run = a.run ++ b.run;
  each = each_append P a.run b.run a.each b.each;
  spelled = a.spelled ∙ rw (b.spelled, append_assoc) refl;
  ends = omega (arith, a.ends, b.ends, length-append a.run b.run);
}
