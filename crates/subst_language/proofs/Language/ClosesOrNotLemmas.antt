-- It is decidable whether a text closes the braces that are open before it.
use Rattle.std.proofs.Common.{◌≡◌, ◌≢◌, ◌⊎◌, ◌↔◌, ℕ, zero, suc, ◌≤◌, List, [], ◌∷◌, length, inl, inr, arith}
use Rattle.std.proofs.Math.Decide.{ℕ_discrete}
use Rattle.subst_language.specs.Language.Bytes.{backslash, opening_brace, closing_brace}
use Rattle.subst_language.specs.Language.Balanced.{Closes}
use Rattle.subst_language.specs.Lemmas.Closing.{ClosesAll}
use Rattle.subst_language.proofs.Language.ClosingLemmas.{closes_byte, closes_escape, closes_opening, closes_closing, closes_nothing, closes_lone_backslash, closes_one}

-- the effect of a byte on the number of open braces
pub data BraceKind : ℕ → Type 0 where
  escapes : BraceKind backslash
  opens : BraceKind opening_brace
  closes : BraceKind closing_brace
  counts_not : {b : ℕ} → b ≢ backslash → b ≢ opening_brace → b ≢ closing_brace → BraceKind b

-- each byte is of some kind
pub brace_kind : (b : ℕ) → BraceKind b
brace_kind b = of (ℕ_discrete b backslash) (ℕ_discrete b opening_brace) (ℕ_discrete b closing_brace)
  where
    of : Dec (b ≡ backslash) → Dec (b ≡ opening_brace) → Dec (b ≡ closing_brace) → BraceKind b
    of (yes e) _ _ = rw e escapes
    of (no n) (yes e) _ = rw e opens
    of (no n) (no o) (yes e) = rw e closes
    of (no n) (no o) (no c) = counts_not n o c

-- if A and B are equivalent and B is decided, so is A
decided : {A B : Type 0} → A ↔ B → B ⊎ (¬ B) → A ⊎ (¬ A)
decided e (inl b) = inl (e.1 b)
decided e (inr n) = inr (λ a. n (e.0 a))

-- one step of the next lemma, by the kind of the first byte, if shorter texts are decided
closes_step : {b : ℕ} → BraceKind b → (k d : ℕ) (y : List ℕ) → length y ≤ k
    → ((e : ℕ) (z : List ℕ) → length z ≤ k → ClosesAll e z ⊎ (¬ (ClosesAll e z)))
    → ClosesAll (suc d) (b ∷ y) ⊎ (¬ (ClosesAll (suc d) (b ∷ y)))
closes_step escapes k d [] h shorter = inr (closes_lone_backslash d)
closes_step escapes k d (b ∷ y) h shorter = decided (closes_escape d y b) (shorter (suc d) y (omega arith))
closes_step opens k d y h shorter = decided (closes_opening d y) (shorter (suc (suc d)) y h)
closes_step closes k d y h shorter = decided (closes_closing d y) (shorter d y h)
closes_step (counts_not {b = b} n o c) k d y h shorter =
    decided (closes_byte d y b n o c) (shorter (suc d) y h)

-- each text of a bounded length closes d open braces, or doesn't
closes_all_within : (k d : ℕ) (w : List ℕ) → length w ≤ k → ClosesAll d w ⊎ (¬ (ClosesAll d w))
closes_all_within k zero w h = inl tt
closes_all_within k (suc d) [] h = inr (closes_nothing d)
closes_all_within zero (suc d) (b ∷ y) h = absurd (omega arith)
closes_all_within (suc k) (suc d) (b ∷ y) h =
    closes_step (brace_kind b) k d y (omega arith) (closes_all_within k)

-- each text closes d open braces, or doesn't
pub closes_all_or_not : (d : ℕ) (w : List ℕ) → ClosesAll d w ⊎ (¬ (ClosesAll d w))
closes_all_or_not d w = closes_all_within (length w) d w (omega arith)

-- each text closes the brace that is open before it, or doesn't
pub closes_or_not : (w : List ℕ) → Closes w ⊎ (¬ (Closes w))
closes_or_not w = decided ((closes_one w).1, (closes_one w).0) (closes_all_or_not 1 w)
