-- The spans in a JSON text that spell many ranges of one string. Each piece of the string's token is read by
-- itself.
use Rattle.std.specs.Prelude.{◌<◌, ◌≤◌, ◌+◌, ℕ, List, [], ◌∷◌, ◌++◌, slice_range}
use Rattle.std.specs.declared.ops.Range.{Range}
use Rattle.subst_error.specs.Range.{IsRangeIn}
use Rattle.subst_document.specs.Pieces.{position, ArePiecesFrom}
use Rattle.subst_document.specs.declared.pieces.Position.{Position}
use Rattle.subst_json.specs.Places.{HasQuotes, IsTokenOf}

-- The text s between two positions, put in quotes, is read as the part of the string x between the positions.
pub record IsPiece (s : List ℕ) (token : Range ℕ) (x : List ℕ) (from to : Position) : Type 0 where
  pub within : IsRangeIn s (record { start = from.place; end = to.place })
  pub forwards : from.place ≤ to.place
  pub before_end : to.place < token.end
  pub range : IsRangeIn x (record { start = from.offset; end = to.offset })
  pub in_order : from.offset ≤ to.offset
  pub spells : IsTokenOf (34 ∷ slice_range s from.place to.place ++ 34 ∷ [])
      (slice_range x from.offset to.offset)

-- `places` are the spans, in the text s, that spell `ranges` of the string whose token is at `token`.
pub record ArePlacesIn (s : List ℕ) (token : Range ℕ) (ranges places : List (Range ℕ)) : Type 0 where
  pub within : IsRangeIn s token
  pub forwards : token.start ≤ token.end
  pub text : List ℕ
  pub spells : IsTokenOf (slice_range s token.start token.end) text
  pub quoted : HasQuotes (slice_range s token.start token.end)
  pub pieces : ArePiecesFrom (IsPiece s token text) (position (token.start + 1) 0) ranges places
