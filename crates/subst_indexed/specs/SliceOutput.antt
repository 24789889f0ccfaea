-- A slice to which an expansion writes.
use Rattle.std.specs.Prelude.{◌≡◌, ◌≤◌, ℕ, List, ◌++◌, drop, length}

-- the first state of a slice: the ghost name of its reference, and its bytes
pub record SliceAtFirst : Type 0 where
  pub name : ℕ
  pub bytes : List ℕ

-- The slice's name and length are those in `first`, and `written` is the length of the bytes x. If x fits in
-- the slice, the slice begins with x, and the rest is as in `first`.
abbrev pub SliceHolds : (name : ℕ) → (slice : List ℕ) → (written : ℕ) → SliceAtFirst → List ℕ → Type 0
SliceHolds name slice written first x =
    (name ≡ first.name) × (written ≡ length x) × (length slice ≡ length first.bytes)
    × (length x ≤ length first.bytes → slice ≡ x ++ drop (length x) first.bytes)
