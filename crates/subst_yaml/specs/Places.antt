-- Spans in a text of YAML that spell parts of a value's string. A sentinel is a byte that no text contains.
use Rattle.std.specs.Prelude.{◌≡◌, ◌≤◌, ◌==◌, ◌||◌, ℕ, Bool, true, List, [], ◌∷◌, ◌++◌, length, slice_range, Some, IfSome}
use Rattle.std.specs.List.{list_all, All, AllZip, Contains}
use Rattle.std.specs.declared.ops.Range.{Range}
use Rattle.subst_error.specs.Range.{IsRangeIn}
use Rattle.subst_yaml_reader.specs.Decoded.{value_of}
use Rattle.subst_yaml_reader.specs.declared.event.Event.{Event}
use Rattle.subst_yaml_reader.specs.declared.event.Event.TheVariants.{Value}
use Rattle.subst_yaml_reader.specs.declared.event.Span.{Span}
use Rattle.subst_yaml_reader.specs.declared.event.Style.{Style}
use Rattle.subst_yaml.specs.Filled.{string_of}
use Rattle.subst_yaml.specs.Outcome.{ReadsAs}
use Rattle.subst_yaml.specs.declared.places.RangeFinder.{RangeFinder}

-- a byte that never occurs in UTF-8
abbrev pub sentinel : ℕ
sentinel = 255

-- the text from an offset to the end of a range, with sentinels at both ends of the range
abbrev pub up_to_range : List ℕ → (from : ℕ) → Range ℕ → List ℕ
up_to_range text from range =
    slice_range text from range.start ++ sentinel ∷ (slice_range text range.start range.end ++ sentinel ∷ [])

-- the text from one offset to another, with sentinels at both ends of each of the given ranges
abbrev pub with_sentinels : List ℕ → (from : ℕ) → List (Range ℕ) → (to : ℕ) → List ℕ
with_sentinels text from [] to = slice_range text from to
with_sentinels text from (range ∷ ranges) to =
    up_to_range text from range ++ with_sentinels text range.end ranges to

-- the ranges are in order and without overlaps, between the offsets `from` and `to`
abbrev pub AreInOrder : (from : ℕ) → List (Range ℕ) → (to : ℕ) → Type 0
AreInOrder from [] to = from ≤ to
AreInOrder from (range ∷ ranges) to =
    (from ≤ range.start) × (range.start ≤ range.end) × AreInOrder range.end ranges to

abbrev pub is_white : ℕ → Bool
is_white b = b == 32 || b == 9 || b == 10

-- The range `short` of the string x is `range`, perhaps shortened by white space at its end. A line break in
-- the token can spell such white space.
pub record IsShortened (x : List ℕ) (range short : Range ℕ) : Type 0 where
  pub start : short.start ≡ range.start
  pub before : short.end ≤ range.end
  pub within : range.end ≤ length x
  pub white : list_all is_white (slice_range x short.end range.end) ≡ true

-- The event e is one of the events of the text s.
abbrev pub IsEventOf : List ℕ → Event → Type 0
IsEventOf s e = ReadsAs s (λ es. Contains es e)

-- the event of a value whose token is at the range `token`
abbrev pub value_at : Range ℕ → Style → Bool → (indent : ℕ) → Event
value_at token style in_flow indent =
    Value style (record { start = token.start; «end» = token.end }) in_flow indent

-- `token` is the range of a value's token in the text s, and the `places` spell the `ranges` of the value's
-- string. With sentinels at both ends of each place, the token is read as the string with sentinels at both
-- ends of each range in `short`. The ranges in `short` are the `ranges`, each perhaps shortened by white
-- space at its end. A line break in the token can spell such white space.
pub record ArePlacesIn (s : List ℕ) (token : Range ℕ) (ranges places : List (Range ℕ)) : Type 0 where
  pub style : Style
  pub in_flow : Bool
  pub indent : ℕ
  pub value : IsEventOf s (value_at token style in_flow indent)
  pub text : List ℕ
  pub spells : string_of style indent (slice_range s token.start token.end) ≡ Some text
  pub one_each : length places ≡ length ranges
  pub within : All (IsRangeIn s) places
  pub in_order : AreInOrder token.start places token.end
  pub short : List (Range ℕ)
  pub shortened : AllZip (IsShortened text) ranges short
  pub short_in_order : AreInOrder 0 short (length text)
  pub spelled : value_of style indent (with_sentinels s token.start places token.end)
      ≡ Some (with_sentinels text 0 short (length text))

-- `place`, a range of the text s, spells `range` of the token's string
abbrev pub IsPlaceIn : List ℕ → (token range place : Range ℕ) → Type 0
IsPlaceIn s token range place = ArePlacesIn s token (range ∷ []) (place ∷ [])

-- the events of the finder are events of the text s
abbrev pub IsFinderOf : RangeFinder → List ℕ → Type 0
IsFinderOf finder s = All (IsEventOf s) finder.events.items
