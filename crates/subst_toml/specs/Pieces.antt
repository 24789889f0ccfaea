-- The spans in a TOML document that spell many ranges of one string. Each piece of the string's token is read
-- by itself.
use Rattle.std.specs.Prelude.{ℕ, ◌≤◌, ◌==◌, if◌then◌else◌, List, [], ◌∷◌, ◌++◌, length, slice_range}
use Rattle.std.specs.declared.ops.Range.{Range}
use Rattle.toml_parser.specs.Lexical.{line_feed}
use Rattle.subst_error.specs.Range.{IsRangeIn}
use Rattle.subst_document.specs.Pieces.{position, ArePiecesFrom}
use Rattle.subst_document.specs.declared.pieces.Position.{Position}
use Rattle.subst_toml.specs.Places.{part_at, quotes_of, IsTokenOf, IsReadUpTo}

-- the piece, put between these quotes; three opening quotes are followed by a newline, which isn't part of
-- the string
abbrev pub between : List ℕ → List ℕ → List ℕ
between quotes piece =
    quotes ++ ((if length quotes == 3 then line_feed ∷ [] else []) ++ (piece ++ quotes))

-- A piece of the text s, put between `quotes`, is read as a part of the string x. The piece and the part
-- begin at `from` and end at `to`.
pub record IsPiece (s : List ℕ) (token : Range ℕ) (quotes x : List ℕ) (from to : Position) : Type 0 where
  pub within : IsRangeIn s (record { start = from.place; end = to.place })
  pub forwards : from.place ≤ to.place
  pub before_end : to.place ≤ token.end
  pub range : IsRangeIn x (record { start = from.offset; end = to.offset })
  pub in_order : from.offset ≤ to.offset
  pub spells : IsTokenOf (between quotes (slice_range s from.place to.place))
      (slice_range x from.offset to.offset)

-- `places` are the spans, in the text s, that spell `ranges` of the string whose token is at `token`. The
-- content of the token begins at `start`: if the token ended there, the string would be empty.
pub record ArePlacesIn (s : List ℕ) (token : Range ℕ) (ranges places : List (Range ℕ)) : Type 0 where
  pub within : IsRangeIn s token
  pub forwards : token.start ≤ token.end
  pub text : List ℕ
  pub spells : IsTokenOf (part_at s token) text
  pub start : ℕ
  pub begins : IsReadUpTo s token start []
  pub pieces : ArePiecesFrom (IsPiece s token (quotes_of (part_at s token)) text)
      (position start 0) ranges places
