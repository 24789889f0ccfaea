-- Spans in a TOML document: those of its tree's strings, and of their parts.
use Rattle.std.specs.Prelude.{◌≡◌, ◌⊎◌, ℕ, ◌+◌, ◌-◌, ◌≤◌, ◌&&◌, ◌==◌, if◌then◌else◌, List, ◌++◌, length, take, slice_index, slice_range, Some}
use Rattle.std.specs.declared.ops.Range.{Range}
use Rattle.toml_parser.specs.Lexical.{carriage_return, line_feed}
use Rattle.toml.specs.Data.{string}
use Rattle.toml.specs.Parse.{parse_value}
use Rattle.subst_error.specs.Range.{IsRangeIn}

-- the part of a text at a range
abbrev pub part_at : List ℕ → Range ℕ → List ℕ
part_at s range = slice_range s range.start range.end

-- the text by itself is read as this string
abbrev pub IsTokenOf : List ℕ → List ℕ → Type 0
IsTokenOf token x = parse_value token ≡ Some (string x)

-- the quotes of a token: three if it begins with three, and otherwise one
abbrev pub quotes_of : List ℕ → List ℕ
quotes_of token =
    if slice_index token 1 == slice_index token 0 && slice_index token 2 == slice_index token 0
    then take 3 token else take 1 token

-- the token at this range of s would spell the string x if it ended at the position `place`
abbrev pub IsReadUpTo : List ℕ → Range ℕ → ℕ → List ℕ → Type 0
IsReadUpTo s token place x =
    IsTokenOf (slice_range s token.start place ++ quotes_of (part_at s token)) x

-- the offset is inside the two-byte newline that the string ends with
abbrev pub IsInNewline : List ℕ → ℕ → Type 0
IsInNewline x offset =
    (length x ≡ offset + 1) × (slice_index x (offset - 1) ≡ carriage_return)
    × (slice_index x offset ≡ line_feed)

-- the string `whole` begins with x
abbrev pub BeginsWith : (whole : List ℕ) → List ℕ → Type 0
BeginsWith whole x = x ≡ slice_range whole 0 (length x)

-- `place` is within the token at `token`, and spells `range` of the token's string. Up to the start of
-- `place`, the token spells the string up to the start of `range`, and likewise for the ends. If `range` ends
-- inside a newline, `place` ends after that newline.
abbrev pub IsPlaceIn : List ℕ → Range ℕ → Range ℕ → Range ℕ → Type 0
IsPlaceIn s token range place =
    IsRangeIn s place × (token.start ≤ place.start) × (place.start ≤ place.end) × (place.end ≤ token.end)
    × ((whole : List ℕ) × IsTokenOf (part_at s token) whole × (range.end ≤ length whole)
    × ((x : List ℕ) × IsReadUpTo s token place.start x × BeginsWith whole x × (length x ≡ range.start))
    × ((x : List ℕ) × IsReadUpTo s token place.end x × BeginsWith whole x
    × ((length x ≡ range.end) ⊎ IsInNewline x range.end)))
