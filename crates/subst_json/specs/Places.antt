-- The span in a JSON text that spells a range of a string.
use Rattle.std.specs.Prelude.{◌≡◌, ◌≤◌, ◌-◌, ℕ, List, [], ◌∷◌, ◌++◌, length, take, slice_index, slice_range, Some}
use Rattle.std.specs.declared.ops.Range.{Range}
use Rattle.serde_json.specs.Data.{string}
use Rattle.serde_json.specs.Read.{read}
use Rattle.subst_error.specs.Range.{IsRangeIn}

-- The text `token` by itself is read as the string x.
abbrev pub IsTokenOf : List ℕ → List ℕ → Type 0
IsTokenOf token x = read token ≡ Some (string x)

-- the token begins and ends with a quote
abbrev pub HasQuotes : List ℕ → Type 0
HasQuotes token = (slice_index token 0 ≡ 34) × (slice_index token (length token - 1) ≡ 34)

-- The text s from a token's start to a position, closed by a quote, is read as the string x.
abbrev pub IsSpelledUntil : List ℕ → ℕ → ℕ → List ℕ → Type 0
IsSpelledUntil s start place x = IsTokenOf (slice_range s start place ++ 34 ∷ []) x

-- `place` is the span, in the text s, that spells `range` of the string whose token is at `token`. The token
-- up to the start of `place` spells the string up to the start of `range`, and likewise for the ends.
pub record IsPlaceIn (s : List ℕ) (token range place : Range ℕ) : Type 0 where
  pub within : IsRangeIn s place
  pub after_start : token.start ≤ place.start
  pub forwards : place.start ≤ place.end
  pub before_end : place.end ≤ token.end
  pub text : List ℕ
  pub spells : IsTokenOf (slice_range s token.start token.end) text
  pub start_within : range.start ≤ length text
  pub end_within : range.end ≤ length text
  pub start_spelled : IsSpelledUntil s token.start place.start (take range.start text)
  pub end_spelled : IsSpelledUntil s token.start place.end (take range.end text)
