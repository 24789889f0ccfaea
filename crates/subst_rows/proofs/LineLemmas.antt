-- The line ends of a text.
use mir.Val.{bool_byte}
use Rattle.std.proofs.Common.{◌≡◌, ℕ, zero, suc, ◌+◌, ◌<◌, ◌≤◌, lit≤, Bool, true, false, List, [], ◌∷◌, drop, length, refl, ap, ◌∙◌, arith}
use Rattle.std.specs.Prelude.{if◌then◌else◌}
use Rattle.subst_error.specs.Position.{ends_line}
use Rattle.subst_rows.specs.Lines.{ends_line_at, line_ends}

-- the next byte ends a line, or doesn't
pub line_ends-next : (n m : ℕ) (text : List ℕ) → m ≡ n + 1 → n < length text
    → line_ends m text ≡ line_ends n text + (if ends_line_at (drop n text) then 1 else 0)
line_ends-next n zero text next below = absurd (omega arith)
line_ends-next n (suc m) [] next below = absurd (omega arith)
line_ends-next zero (suc m) (b ∷ rest) next below =
    ap (λ k. (if ends_line b rest then 1 else 0) + line_ends k rest) (none m next)
    ∙ swap (if ends_line b rest then 1 else 0)
  where
    none : (m : ℕ) → suc m ≡ zero + 1 → m ≡ 0
    none m next = omega arith

    swap : (k : ℕ) → k + 0 ≡ 0 + k
    swap k = omega arith
line_ends-next (suc n) (suc m) (b ∷ rest) next below =
    ap (λ k. (if ends_line b rest then 1 else 0) + k) (line_ends-next n m rest (omega arith) (omega arith))
    ∙ group (if ends_line b rest then 1 else 0) (line_ends n rest) (if ends_line_at (drop n rest) then 1 else 0)
  where
    group : (i j k : ℕ) → i + (j + k) ≡ (i + j) + k
    group i j k = omega arith

-- a truth as a number
pub bit_of : (b : Bool) → bool_byte b ≡ (if b then 1 else 0)
bit_of true = refl
bit_of false = refl

pub bit_small : (b : Bool) → bool_byte b ≤ 1
bit_small true = lit≤ tt
bit_small false = lit≤ tt
