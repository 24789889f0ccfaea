-- Folding: how white space between the lines of a value is joined.
use Rattle.std.specs.Prelude.{ℕ, ◌==◌, Bool, false, true, List, [], ◌∷◌, ◌++◌, drop, filter, if◌then◌else◌, Option, Some, None}
use Rattle.std.specs.Char.{encode_utf8}
use Rattle.subst_yaml_reader.specs.Bytes.{begins, is_blank, line_feed, space, backslash}
use Rattle.subst_yaml_reader.specs.declared.folded.Piece.{Piece}
use Rattle.subst_yaml_reader.specs.declared.folded.Piece.TheVariants as piece

-- folded white space. `ends` are its line feeds. Without line feeds, the result is `white`; with one, a
-- space; with several, all of them but the first
abbrev pub joined : (white : List ℕ) → (ends : List ℕ) → List ℕ
joined white [] = white
joined white (end ∷ []) = space ∷ []
joined white (end ∷ next ∷ ends) = next ∷ ends

-- White space between words, folded. If it begins with a backslash, the line end after the backslash is
-- escaped, and isn't kept.
abbrev pub gap : (white : List ℕ) → List ℕ
gap white =
    if begins backslash white then drop 1 (filter (λ b. b == line_feed) white)
    else joined white (filter (λ b. b == line_feed) white)

-- the bytes that a piece adds to the value, if `white` is the white space before the piece
abbrev pub added : (white : List ℕ) → Piece → List ℕ
added white piece.Nothing = []
added white (piece.White b) = []
added white (piece.EscapedEnd b) = gap white
added white (piece.Byte b) = gap white ++ b ∷ []
added white (piece.Character c) = gap white ++ encode_utf8 c

-- the white space that isn't folded yet after a piece. `white` is the white space before the piece. The
-- result begins with a backslash if its line end is escaped
abbrev pub white_after : (white : List ℕ) → Piece → List ℕ
white_after white piece.Nothing = white
white_after white (piece.White b) = white ++ b ∷ []
white_after white (piece.EscapedEnd b) = backslash ∷ b ∷ []
white_after white _ = []

-- the value of these pieces, if `white` is the white space before the first piece
unfoldable pub folded : (white : List ℕ) → List Piece → List ℕ
folded white [] = gap white
folded white (g ∷ more) = added white g ++ folded (white_after white g) more

-- The line feeds `ends` between two lines in the style `>`, folded. They are joined if neither line begins
-- with a blank. `before` is whether the first of the lines begins with a blank, and `is_indented` is whether
-- the second does. At the scalar's first line, `before` is `None`, and the header's line feed is removed.
abbrev pub between : (before : Option Bool) → (is_indented : Bool) → (ends : List ℕ) → List ℕ
between None is_indented ends = drop 1 ends
between (Some true) is_indented ends = ends
between (Some false) true ends = ends
between (Some false) false ends = joined [] ends

-- whether the line of the byte b begins with a blank. `before` is the result for the last byte before b that
-- isn't a line feed, and `ends` are the line feeds between both bytes. Without line feeds, the result is
-- `before`
abbrev pub indented : (before : Option Bool) → (ends : List ℕ) → ℕ → Option Bool
indented before [] b = before
indented before (end ∷ ends) b = Some (is_blank b)

-- the value, in the style `>`, of lines whose indentation was removed. `ends` are the line feeds before these
-- lines. `before` is whether the line before those line feeds begins with a blank, or `None` if there is no
-- such line
unfoldable pub folded_lines : (before : Option Bool) → (ends : List ℕ) → List ℕ → List ℕ
folded_lines before ends [] = between before true ends
folded_lines before ends (b ∷ rest) =
    elim (b == line_feed) [
      | true ↦ folded_lines before (ends ++ b ∷ []) rest
      | false ↦ between before (is_blank b) ends ++ b ∷ folded_lines (indented before ends b) [] rest
    ]
