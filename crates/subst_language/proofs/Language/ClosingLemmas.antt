-- Texts that close open braces, a byte at a time.
use Rattle.std.proofs.Common.{rules, ◌≡◌, ◌≢◌, ◌↔◌, ℕ, zero, suc, ◌+◌, List, [], ◌∷◌, ◌++◌, refl, sym, ap, ◌∙◌, subst, arith}
use Rattle.std.proofs.lemmas.List.{append_assoc}
use Rattle.subst_language.specs.Language.Balanced.{IsBalanced, Closes}
use Rattle.subst_language.specs.Language.Balanced.IsBalanced.{empty, byte, escape, braces}
use Rattle.subst_language.specs.Lemmas.Closing.{ClosesAll, Completes}
use Rattle.subst_language.specs.Language.Bytes.{closing_brace, backslash, opening_brace}
use Rattle.subst_language.proofs.Language.BalancedLemmas.{balanced_append}
use Rattle.subst_language.proofs.Language.ListLemmas.{first_same, rest_same, no_element}

-- after an opening brace, two closings one after the other are a text in braces and one closing
around : {v w : List ℕ} (x y z : List ℕ) → v ≡ x ++ closing_brace ∷ w → w ≡ y ++ closing_brace ∷ z
    → opening_brace ∷ v ≡ (opening_brace ∷ x ++ closing_brace ∷ y) ++ closing_brace ∷ z
around x y z e f = search (rules, opening_brace, closing_brace, append_assoc)

-- a balanced prefix of the text is followed by a closing brace, and R holds of the rest
abbrev pub ClosesThen : (List ℕ → Type 0) → List ℕ → Type 0
ClosesThen R w = (x y : List ℕ) × IsBalanced x × (w ≡ x ++ closing_brace ∷ y) × R y

module _ (R : List ℕ → Type 0) (v : List ℕ) where
  -- the closing brace after a byte that is no backslash and no brace
  pub after_byte : (b : ℕ) {x : List ℕ} → b ≢ backslash → b ≢ opening_brace → b ≢ closing_brace → IsBalanced x
      → (y : List ℕ) → b ∷ v ≡ x ++ closing_brace ∷ y → R y
      → ClosesThen R v
  after_byte b no_slash no_open no_close empty y e rest = absurd (no_close (first_same e))
  after_byte b no_slash no_open no_close (byte {x = x} _ _ _ inner) y e rest =
      (x, y, inner, rest_same e, rest)
  after_byte b no_slash no_open no_close (escape inner) y e rest = absurd (no_slash (first_same e))
  after_byte b no_slash no_open no_close (braces inner more) y e rest = absurd (no_open (first_same e))

  -- the closing brace after an escape
  pub after_escape : (b : ℕ) {x : List ℕ} → IsBalanced x → (y : List ℕ)
      → backslash ∷ b ∷ v ≡ x ++ closing_brace ∷ y → R y → ClosesThen R v
  after_escape b empty y e rest = absurd (omega (arith, first_same e))
  after_escape b (byte no_slash _ _ inner) y e rest = absurd (no_slash (sym (first_same e)))
  after_escape b (escape {x = x} inner) y e rest = (x, y, inner, rest_same (rest_same e), rest)
  after_escape b (braces inner more) y e rest = absurd (omega (arith, first_same e))

  -- the closing brace after an opening brace
  pub after_opening : {x : List ℕ} → IsBalanced x → (y : List ℕ) → opening_brace ∷ v ≡ x ++ closing_brace ∷ y
      → R y → ClosesThen (ClosesThen R) v
  after_opening empty y e rest = absurd (omega (arith, first_same e))
  after_opening (byte _ no_open _ inner) y e rest = absurd (no_open (sym (first_same e)))
  after_opening (escape inner) y e rest = absurd (omega (arith, first_same e))
  after_opening (braces {x = x} {y = z} inner more) y e rest = (
    x,
    z ++ closing_brace ∷ y,
    inner,
    rest_same e ∙ append_assoc x (closing_brace ∷ z) (closing_brace ∷ y),
    (z, y, more, refl, rest),
  )

  -- the closing brace after a closing brace
  pub after_closing : {x : List ℕ} → IsBalanced x → (y : List ℕ) → closing_brace ∷ v ≡ x ++ closing_brace ∷ y
      → R y → R v
  after_closing empty y e rest = subst R (sym (rest_same e)) rest
  after_closing (byte _ _ no_close inner) y e rest = absurd (no_close (sym (first_same e)))
  after_closing (escape inner) y e rest = absurd (omega (arith, first_same e))
  after_closing (braces inner more) y e rest = absurd (omega (arith, first_same e))

module _ (n : ℕ) (v : List ℕ) where
  -- a byte that is no backslash and no brace closes nothing
  pub closes_byte : (b : ℕ) → b ≢ backslash → b ≢ opening_brace → b ≢ closing_brace
      → ClosesAll (suc n) (b ∷ v) ↔ ClosesAll (suc n) v
  closes_byte b no_slash no_open no_close = (
    λ (x, y, inner, e, rest). after_byte (ClosesAll n) v b no_slash no_open no_close inner y e rest,
    λ (x, y, inner, e, rest).
        (b ∷ x, y, byte no_slash no_open no_close inner, ap (λ (w : List ℕ). b ∷ w) e, rest),
  )

  -- an escape closes nothing
  pub closes_escape : (b : ℕ) → ClosesAll (suc n) (backslash ∷ b ∷ v) ↔ ClosesAll (suc n) v
  closes_escape b = (
    λ (x, y, inner, e, rest). after_escape (ClosesAll n) v b inner y e rest,
    λ (x, y, inner, e, rest).
        (backslash ∷ b ∷ x, y, escape inner, ap (λ (w : List ℕ). backslash ∷ b ∷ w) e, rest),
  )

  -- an opening brace is one more to close
  pub closes_opening : ClosesAll (suc n) (opening_brace ∷ v) ↔ ClosesAll (suc (suc n)) v
  closes_opening = (
    λ (x, y, inner, e, rest). after_opening (ClosesAll n) v inner y e rest,
    λ (x, w, inner, e, (y, z, more, f, rest)).
        (opening_brace ∷ x ++ closing_brace ∷ y, z, braces inner more, around x y z e f, rest),
  )

  -- a closing brace closes one
  pub closes_closing : ClosesAll (suc n) (closing_brace ∷ v) ↔ ClosesAll n v
  closes_closing = (
    λ (x, y, inner, e, rest). after_closing (ClosesAll n) v inner y e rest,
    λ rest. ([], v, empty, refl, rest),
  )

-- an empty text closes nothing
pub closes_nothing : (n : ℕ) → ¬ (ClosesAll (suc n) [])
closes_nothing n = λ (x, y, inner, e, rest). no_element closing_brace x y e

-- no balanced prefix of a lone backslash has a closing brace after it
lone_backslash : {x : List ℕ} → IsBalanced x → (y : List ℕ) → ¬ (backslash ∷ [] ≡ x ++ closing_brace ∷ y)
lone_backslash empty y e = omega (arith, first_same e)
lone_backslash (byte no_slash _ _ inner) y e = no_slash (sym (first_same e))
lone_backslash (escape {b = b} {x = x} inner) y e = no_element closing_brace (b ∷ x) y (rest_same e)
lone_backslash (braces inner more) y e = omega (arith, first_same e)

-- a lone backslash closes nothing
pub closes_lone_backslash : (n : ℕ) → ¬ (ClosesAll (suc n) (backslash ∷ []))
closes_lone_backslash n = λ (x, y, inner, e, rest). lone_backslash inner y e

-- to close one brace is to close
pub closes_one : (w : List ℕ) → ClosesAll 1 w ↔ Closes w
closes_one w = (λ (x, y, inner, e, rest). (x, y, inner, e), λ (x, y, inner, e). (x, y, inner, e, tt))

-- one equivalence after another
pub then_also : {A B C : Type 0} → A ↔ B → B ↔ C → A ↔ C
then_also f g = (λ a. g.0 (f.0 a), λ c. f.1 (g.1 c))

-- a balanced text closes nothing
pub closes_balanced : (n : ℕ) (v : List ℕ) {x : List ℕ} → IsBalanced x
    → ClosesAll (suc n) (x ++ v) ↔ ClosesAll (suc n) v
closes_balanced n v empty = (λ h. h, λ h. h)
closes_balanced n v (byte {b = b} {x = x} no_slash no_open no_close inner) =
    then_also (closes_byte n (x ++ v) b no_slash no_open no_close) (closes_balanced n v inner)
closes_balanced n v (escape {b = b} {x = x} inner) =
    then_also (closes_escape n (x ++ v) b) (closes_balanced n v inner)
closes_balanced n v (braces {x = x} {y = y} inner more) =
    let closed : ClosesAll (suc (suc n)) (x ++ (closing_brace ∷ y ++ v)) ↔ ClosesAll (suc n) (y ++ v) =
    then_also (closes_balanced (suc n) (closing_brace ∷ y ++ v) inner) (closes_closing (suc n) (y ++ v)) in
    then_also (closes_opening n (x ++ closing_brace ∷ y ++ v))
    (then_also (rw append_assoc closed) (closes_balanced n v more))

-- a byte that is no backslash and no brace may be before a text that completes braces
pub completes_byte : (d : ℕ) (v : List ℕ) (b : ℕ) → b ≢ backslash → b ≢ opening_brace → b ≢ closing_brace
    → Completes d v → Completes d (b ∷ v)
completes_byte zero v b no_slash no_open no_close inner = byte no_slash no_open no_close inner
completes_byte (suc d) v b no_slash no_open no_close done =
    let (x, y, inner, e, rest) = done in
    (b ∷ x, y, byte no_slash no_open no_close inner, ap (λ (w : List ℕ). b ∷ w) e, rest)

-- an escape may be before a text that completes braces
pub completes_escape : (d : ℕ) (v : List ℕ) (b : ℕ) → Completes d v → Completes d (backslash ∷ b ∷ v)
completes_escape zero v b inner = escape inner
completes_escape (suc d) v b done =
    let (x, y, inner, e, rest) = done in
    (backslash ∷ b ∷ x, y, escape inner, ap (λ (w : List ℕ). backslash ∷ b ∷ w) e, rest)

-- an opening brace is one more to complete
pub completes_opening : (d : ℕ) (v : List ℕ) → Completes (suc d) v → Completes d (opening_brace ∷ v)
completes_opening zero v = search (rules, opening_brace, braces)
completes_opening (suc d) v =
    λ (x, w, inner, e, (y, z, more, f, rest)).
    (opening_brace ∷ x ++ closing_brace ∷ y, z, braces inner more, around x y z e f, rest)

-- a closing brace completes one
pub completes_closing : (d : ℕ) (v : List ℕ) → Completes d v → Completes (suc d) (closing_brace ∷ v)
completes_closing d v done = ([], v, empty, refl, done)

-- a balanced text may be before a text that completes braces
pub completes_balanced : (d : ℕ) (v : List ℕ) {x : List ℕ} → IsBalanced x → Completes d v
    → Completes d (x ++ v)
completes_balanced zero v front inner = balanced_append front inner
completes_balanced (suc d) v {x} front done =
    let (w, y, inner, e, rest) = done in (
      x ++ w,
      y,
      balanced_append front inner,
      ap (λ (u : List ℕ). x ++ u) e ∙ sym (append_assoc x w (closing_brace ∷ y)),
      rest,
    )

-- a text that closes d + 1 + m braces is one that completes d, a closing brace, and one that closes m
pub gather : (d m : ℕ) (z : List ℕ) → ClosesAll (suc (d + m)) z
    → (v q : List ℕ) × Completes d v × (z ≡ v ++ closing_brace ∷ q) × ClosesAll m q
gather zero m z =
    λ (x, y, inner, e, rest). (x, y, inner, e, subst (λ (k : ℕ). ClosesAll k y) (omega arith) rest)
gather (suc d) m z = λ (x, y, inner, e, rest).
    let sum : suc d + m ≡ suc (d + m) = omega arith in
    let (v, q, done, f, closed) = gather d m y (subst (λ (k : ℕ). ClosesAll k y) sum rest) in
    let split : z ≡ (x ++ closing_brace ∷ v) ++ closing_brace ∷ q =
    e ∙ ap (λ (u : List ℕ). x ++ closing_brace ∷ u) f
    ∙ sym (append_assoc x (closing_brace ∷ v) (closing_brace ∷ q)) in
    (x ++ closing_brace ∷ v, q, (x, v, inner, refl, done), split, closed)
