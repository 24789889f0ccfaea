-- Vectors of 32 bytes, and masks of the bytes of a source.
use Rattle.std.specs.Prelude.{◌≡◌, ℕ, ◌+◌, ◌<◌, ◌≤◌, Bool, List, length, slice_index, if◌then◌else◌}
use Rattle.std.specs.Int.{bit_at}

-- the vector is the 32 bytes of the source s from position `at` on
pub record HasBytes (s : List ℕ) (at : ℕ) (bytes : List ℕ) : Type 0 where
  pub long : length bytes ≡ 32
  pub each : (k : ℕ) → k < 32 → slice_index bytes k ≡ slice_index s (at + k)

-- each lane is 255 if the byte of `bytes` at the lane's index passes the test, and 0 otherwise
pub record HasTest (test : ℕ → Bool) (bytes lanes : List ℕ) : Type 0 where
  pub long : length lanes ≡ 32
  pub each : (k : ℕ) → k < 32 → slice_index lanes k ≡ (if test (slice_index bytes k) then 255 else 0)

-- P holds of each byte of `bytes` whose lane has its top bit clear, and of no other
pub record HasOutside (P : ℕ → Type 0) (bytes lanes : List ℕ) : Type 0 where
  pub long : length lanes ≡ 32
  pub inside : (k : ℕ) → k < 32 → slice_index lanes k < 128 → P (slice_index bytes k)
  pub outside : (k : ℕ) → k < 32 → 128 ≤ slice_index lanes k → ¬ (P (slice_index bytes k))

-- the mask has a set bit for each byte of the source s in from..to, unless P holds of the byte; the lowest
-- bit is that of the byte at `from`
pub record MarksOutside (P : ℕ → Type 0) (s : List ℕ) (from to mask : ℕ) : Type 0 where
  pub inside : (k : ℕ) → from + k < to → bit_at mask k ≡ 0 → P (slice_index s (from + k))
  pub outside : (k : ℕ) → bit_at mask k ≡ 1 → (from + k < to) × (¬ (P (slice_index s (from + k))))
