-- Runs of a source's bytes that all have a property.
use Rattle.std.specs.Prelude.{◌≡◌, ℕ, ◌+◌, ◌<◌, ◌≤◌, List, ◌++◌, length, drop}
use Rattle.std.specs.List.{AllByRecursion}
use Rattle.subst_language.specs.Language.Name.{BeginsWithNo}

-- P holds of each byte of the source s in from..to
pub record IsRun (P : ℕ → Type 0) (s : List ℕ) (from to : ℕ) : Type 0 where
  pub run : List ℕ
  pub each : AllByRecursion P run
  pub spelled : drop from s ≡ run ++ drop to s
  pub ends : to ≡ from + length run

-- P holds of each byte of the source s in from..to, and not of the byte at `to`, unless s ends there
pub record EndsRun (P : ℕ → Type 0) (s : List ℕ) (from to : ℕ) : Type 0 where
  pub run : IsRun P s from to
  pub end : BeginsWithNo P (drop to s)
  pub within : to ≤ length s

-- P holds of each byte of the source s in from..to, and `to` is at most `limit`. If `to` is below `limit`, P
-- doesn't hold of the byte at `to`, or s ends there.
pub record EndsRunBefore (P : ℕ → Type 0) (s : List ℕ) (from limit to : ℕ) : Type 0 where
  pub run : IsRun P s from to
  pub end : to < limit → BeginsWithNo P (drop to s)
  pub before : to ≤ limit
