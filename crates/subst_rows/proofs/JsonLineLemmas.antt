-- The lines of a text that aren't blank.
use Rattle.std.proofs.Common.{◌≡◌, ℕ, zero, suc, ◌+◌, ◌<◌, Bool, true, false, List, [], ◌∷◌, ◌++◌, take, drop, get_or, length, append_assoc, append-nil, refl, sym, ap, ◌∙◌, arith}
use Rattle.std.proofs.lemmas.Bool.Decides.{nat_tests}
use Rattle.std.specs.Prelude.{◌==◌, if◌then◌else◌}
use Rattle.subst_rows.specs.JsonLines.{row_if, rows_from}

-- the lines of a text by the test of its first byte
abbrev by_test : Bool → (number : ℕ) → (front : List ℕ) → ℕ → List ℕ → List (ℕ × List ℕ)
by_test ends number front b text =
    if ends then row_if number front (rows_from (number + 1) [] text) else rows_from number (front ++ b ∷ []) text

rows_from-byte : (number : ℕ) (front text : List ℕ) (b : ℕ) (ends : Bool) → (b == 10) ≡ ends
    → rows_from number front (b ∷ text) ≡ by_test ends number front b text
unfolding rows_from
rows_from-byte number front text b ends is = ap (λ ends. by_test ends number front b text) is

-- the line up to the first line feed, and those after it
pub rows_at : (number at : ℕ) (front text : List ℕ) (d : ℕ) → at < length text
    → ((k : ℕ) → k < at → (get_or text k d == 10) ≡ false) → (get_or text at d == 10) ≡ true
    → rows_from number front text
    ≡ row_if number (front ++ take at text) (rows_from (number + 1) [] (drop (at + 1) text))
rows_at number at front [] d below before found = absurd (omega arith)
rows_at number zero front (b ∷ text) d below before found =
    rows_from-byte number front text b true found
    ∙ ap (λ line. row_if number line (rows_from (number + 1) [] text)) (sym (append-nil front))
rows_at number (suc at) front (b ∷ text) d below before found =
    rows_from-byte number front text b false (before 0 (omega arith))
    ∙ rows_at number at (front ++ b ∷ []) text d (omega arith) (λ k small. before (suc k) (omega arith)) found
    ∙ ap (λ line. row_if number line (rows_from (number + 1) [] (drop (at + 1) text)))
    (append_assoc front (b ∷ []) (take at text))
    ∙ ap (λ n. row_if number (front ++ b ∷ take at text) (rows_from (number + 1) [] (drop n (b ∷ text)))) (next at)
  where
    next : (n : ℕ) → suc (n + 1) ≡ suc n + 1
    next n = omega arith

-- the last line, which has no line feed
rows_of_last : (number : ℕ) (front text : List ℕ) (d : ℕ)
    → ((k : ℕ) → k < length text → (get_or text k d == 10) ≡ false)
    → rows_from number front text ≡ row_if number (front ++ text) []
unfolding rows_from
rows_of_last number front [] d none = ap (λ line. row_if number line []) (sym (append-nil front))
rows_of_last number front (b ∷ text) d none =
    rows_from-byte number front text b false (none 0 (omega arith))
    ∙ rows_of_last number (front ++ b ∷ []) text d (λ k small. none (suc k) (omega arith))
    ∙ ap (λ line. row_if number line []) (append_assoc front (b ∷ []) text)

-- an empty text has no lines
pub rows_of_nothing : (number : ℕ) → rows_from number [] [] ≡ []
unfolding rows_from
rows_of_nothing number = refl

pub rows_last : (number : ℕ) (text : List ℕ) (d : ℕ)
    → ((k : ℕ) → k < length text → (get_or text k d == 10) ≡ false)
    → rows_from number [] text ≡ row_if number text (rows_from (number + 1) [] [])
rows_last number text d none =
    rows_of_last number [] text d none ∙ ap (row_if number text) (sym (rows_of_nothing (number + 1)))

-- nor does a text without bytes
pub none_left : (number : ℕ) (text : List ℕ) → true ≡ (length text == 0) → rows_from number [] text ≡ []
none_left number [] empty = rows_of_nothing number
none_left number (b ∷ text) empty = absurd (grind (arith, nat_tests, empty))
