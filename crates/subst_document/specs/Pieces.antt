-- The spans that several ranges of one string have in its token, in order.
use Rattle.std.specs.Prelude.{◌≡◌, ℕ, List, [], ◌∷◌}
use Rattle.std.specs.declared.ops.Range.{Range}
use Rattle.subst_document.specs.declared.pieces.Position.{Position}

-- the position at the byte offset `place` in the document and `offset` in the string
abbrev pub position : ℕ → ℕ → Position
position place offset = record { place = place; offset = offset }

-- `places` are the spans of `ranges` in a token, in order, from the position `from` on. `IsPiece` holds of
-- the two ends of each span, and of the two ends of the gap before each span.
abbrev pub ArePiecesFrom : (Position → Position → Type 0) → Position → List (Range ℕ) → List (Range ℕ)
    → Type 0
ArePiecesFrom IsPiece from [] places = places ≡ []
ArePiecesFrom IsPiece from (range ∷ ranges) places =
    (place : Range ℕ) × (more : List (Range ℕ)) × (places ≡ place ∷ more)
    × IsPiece from (position place.start range.start)
    × IsPiece (position place.start range.start) (position place.end range.end)
    × ArePiecesFrom IsPiece (position place.end range.end) ranges more
