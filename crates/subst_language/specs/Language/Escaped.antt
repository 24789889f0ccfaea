-- Texts in which each special byte is escaped.
use Rattle.std.specs.Prelude.{ℕ, ◌==◌, Bool, ◌||◌, List, [], ◌∷◌, ◌++◌, if◌then◌else◌}
use Rattle.subst_language.specs.Language.Bytes.{dollar, colon, backslash, opening_brace, closing_brace}

-- one of the five bytes that `escaped` puts a backslash before: \ $ { } :
abbrev pub is_special : ℕ → Bool
is_special b = b == backslash || b == dollar || b == opening_brace || b == closing_brace || b == colon

-- the byte, with a backslash before it if it is special
abbrev pub escaped_byte : ℕ → List ℕ
escaped_byte b = if is_special b then backslash ∷ b ∷ [] else b ∷ []

-- the text with a backslash before each special byte
abbrev pub escaped : List ℕ → List ℕ
escaped [] = []
escaped (b ∷ x) = escaped_byte b ++ escaped x
