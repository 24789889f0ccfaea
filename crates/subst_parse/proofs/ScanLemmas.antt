-- The search for closing braces, a byte at a time.
use Rattle.std.proofs.Common.{◌≡◌, ◌≢◌, ◌↔◌, ℕ, zero, suc, ◌+◌, ◌-◌, ◌<◌, ◌≤◌, List, [], ◌∷◌, length, drop, ap, ◌∙◌, subst, arith}
use Rattle.std.proofs.lemmas.List.{drop-drop}
use Rattle.subst_language.specs.Lemmas.Closing.{ClosesAll}
use Rattle.subst_language.specs.Language.Bytes.{backslash, closing_brace, opening_brace}
use Rattle.subst_language.proofs.Language.ClosingLemmas.{closes_byte, closes_escape, closes_opening, closes_closing, closes_nothing, closes_lone_backslash, then_also}

-- the search began at `from` with `count` open braces, and is at `at` with `unclosed`: the rests of the
-- source close either or neither
pub record IsScan (s : List ℕ) (from count at unclosed : ℕ) : Type 0 where
  pub shallow : unclosed ≤ at
  pub inside : at ≤ length s + 1
  pub same : ClosesAll count (drop from s) ↔ ClosesAll unclosed (drop at s)

-- a text closes braces after a backslash and a byte if it does so without these
after_backslash : (n : ℕ) (v : List ℕ) → ClosesAll (suc n) (backslash ∷ v) ↔ ClosesAll (suc n) (drop 1 v)
after_backslash n [] = (λ h. absurd (closes_lone_backslash n h), λ h. absurd (closes_nothing n h))
after_backslash n (b ∷ v) = closes_escape n v b

module _ {s : List ℕ} {from count at : ℕ} where
  -- at the end of the source the open braces stay open
  pub scan_end : {unclosed : ℕ} → IsScan s from count at unclosed → 0 < unclosed → drop at s ≡ []
      → ¬ (ClosesAll count (drop from s))
  scan_end {unclosed = zero} scan some ends = absurd (omega arith)
  scan_end {unclosed = suc n} scan some ends =
      λ closed. closes_nothing n (subst (λ (v : List ℕ). ClosesAll (suc n) v) ends (scan.same.0 closed))

  -- a backslash escapes the byte after it
  pub scan_escape : {unclosed b : ℕ} → IsScan s from count at unclosed → 0 < unclosed → at < length s
      → drop at s ≡ b ∷ drop (at + 1) s → b ≡ backslash → IsScan s from count (at + 2) unclosed
  scan_escape {unclosed = zero} scan some within front slash = absurd (omega arith)
  scan_escape {unclosed = suc n} scan some within front slash =
      let further : drop 1 (drop (at + 1) s) ≡ drop (at + 2) s =
      drop-drop 1 (at + 1) s ∙ ap (λ (k : ℕ). drop k s) (omega arith) in
      let step : ClosesAll (suc n) (drop at s) ↔ ClosesAll (suc n) (drop (at + 2) s) =
      rw (front, slash, ← further) (after_backslash n (drop (at + 1) s)) in
      record { shallow = omega arith; inside = omega arith; same = then_also scan.same step }

  -- an opening brace adds one brace to close
  pub scan_opening : {unclosed b : ℕ} → IsScan s from count at unclosed → 0 < unclosed → at < length s
      → drop at s ≡ b ∷ drop (at + 1) s → b ≡ opening_brace → IsScan s from count (at + 1) (unclosed + 1)
  scan_opening {unclosed = zero} scan some within front opens = absurd (omega arith)
  scan_opening {unclosed = suc n} scan some within front opens =
      let more : suc n + 1 ≡ suc (suc n) = omega arith in
      let step : ClosesAll (suc n) (drop at s) ↔ ClosesAll (suc n + 1) (drop (at + 1) s) =
      rw (front, opens, more) (closes_opening n (drop (at + 1) s)) in
      record { shallow = omega arith; inside = omega arith; same = then_also scan.same step }

  -- a closing brace removes one
  pub scan_closing : {unclosed b : ℕ} → IsScan s from count at unclosed → 0 < unclosed → at < length s
      → drop at s ≡ b ∷ drop (at + 1) s → b ≡ closing_brace → IsScan s from count (at + 1) (unclosed - 1)
  scan_closing {unclosed = zero} scan some within front closes = absurd (omega arith)
  scan_closing {unclosed = suc n} scan some within front closes =
      let less : suc n - 1 ≡ n = omega arith in
      let step : ClosesAll (suc n) (drop at s) ↔ ClosesAll (suc n - 1) (drop (at + 1) s) =
      rw (front, closes, less) (closes_closing n (drop (at + 1) s)) in
      record { shallow = omega arith; inside = omega arith; same = then_also scan.same step }

  -- another byte changes nothing
  pub scan_byte : {unclosed b : ℕ} → IsScan s from count at unclosed → 0 < unclosed → at < length s
      → drop at s ≡ b ∷ drop (at + 1) s → b ≢ backslash → b ≢ opening_brace → b ≢ closing_brace
      → IsScan s from count (at + 1) unclosed
  scan_byte {unclosed = zero} scan some within front no_slash no_open no_close = absurd (omega arith)
  scan_byte {unclosed = suc n} {b} scan some within front no_slash no_open no_close =
      let step : ClosesAll (suc n) (drop at s) ↔ ClosesAll (suc n) (drop (at + 1) s) =
      rw front (closes_byte n (drop (at + 1) s) b no_slash no_open no_close) in
      record { shallow = omega arith; inside = omega arith; same = then_also scan.same step }
