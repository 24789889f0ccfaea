-- The effect of a text on the braces that are open before it.
use Rattle.std.proofs.Common.{◌≡◌, ◌≢◌, ℕ, suc, ◌+◌, List, [], ◌∷◌, ◌++◌, subst, append_assoc, arith}
use Rattle.subst_language.specs.Language.Balanced.{IsBalanced}
use Rattle.subst_language.specs.Language.Balanced.IsBalanced.{empty, byte}
use Rattle.subst_language.specs.Lemmas.Closing.{ClosesAll}
use Rattle.subst_language.specs.Lemmas.Closing.{ChangesDepth}
use Rattle.subst_language.specs.Language.Bytes.{backslash, closing_brace, opening_brace}
use Rattle.subst_language.proofs.Language.ClosingLemmas.{closes_balanced, closes_opening, closes_closing, completes_balanced, completes_opening, completes_closing}

-- the same number of braces, written differently
again : (v : List ℕ) (m n : ℕ) → m ≡ n → ClosesAll m v → ClosesAll n v
again v m n same closes = subst (λ count. ClosesAll count v) same closes

-- a balanced text leaves all of them open
pub depth_balanced : (d : ℕ) {x : List ℕ} → IsBalanced x → ChangesDepth x d d
depth_balanced d {x} balanced = record {
  completed = λ v completes. completes_balanced d v balanced completes;
  closed = λ k m n v before after closes.
      again v (suc (d + k)) n (omega arith)
      ((closes_balanced (d + k) v balanced).0 (again (x ++ v) m (suc (d + k)) (omega arith) closes));
}

-- a bare opening brace opens one more
pub depth_opening : (d : ℕ) → ChangesDepth (opening_brace ∷ []) d (suc d)
depth_opening d = record {
  completed = λ v completes. completes_opening d v completes;
  closed = λ k m n v before after closes.
      again v (suc (suc (d + k))) n (omega arith)
      ((closes_opening (d + k) v).0 (again (opening_brace ∷ v) m (suc (d + k)) (omega arith) closes));
}

-- a bare closing brace closes one
pub depth_closing : (d : ℕ) → ChangesDepth (closing_brace ∷ []) (suc d) d
depth_closing d = record {
  completed = λ v completes. completes_closing d v completes;
  closed = λ k m n v before after closes.
      again v (suc (d + k)) n (omega arith)
      ((closes_closing (suc (d + k)) v).0
      (again (closing_brace ∷ v) m (suc (suc (d + k))) (omega arith) closes));
}

-- a byte that is no backslash and no brace changes nothing
pub depth_byte : (d b : ℕ) → b ≢ backslash → b ≢ opening_brace → b ≢ closing_brace → ChangesDepth (b ∷ []) d d
depth_byte d b no_backslash no_opening no_closing =
    depth_balanced d (byte no_backslash no_opening no_closing empty)

-- two texts concatenated
pub depth_append : (d e f : ℕ) (y z : List ℕ) → ChangesDepth y d e → ChangesDepth z e f
    → ChangesDepth (y ++ z) d f
depth_append d e f y z first second = record {
  completed = λ v completes. rw append_assoc (first.completed (z ++ v) (second.completed v completes));
  closed = λ k m n v before after closes.
      second.closed k (e + suc k) n v (omega arith) after
      (first.closed k m (e + suc k) (z ++ v) before (omega arith) (rw append_assoc at closes));
}
