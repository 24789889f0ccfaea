-- Searches: the bytes at which they stop, and the bytes that they skip. Whether a search stops at a byte
-- depends only on that byte.
use Rattle.std.specs.Prelude.{ℕ, ◌==◌, ◌&&◌, ◌||◌, Bool, true, false, not, List, [], ◌∷◌, if◌then◌else◌, nat_lt}
use Rattle.std.specs.Int.{w64, trailing_zeros}
use Rattle.std.specs.List.{prefix_len}
use Rattle.subst_yaml_reader.specs.Bytes.{backslash, carriage_return, colon, double_quote, is_blank, is_bracket, is_line_end, line_feed, single_quote, space}

-- The byte may begin a character that not every reader accepts. It is a control character other than a line
-- feed, or the first byte of U+0080 to U+00BF, U+2000 to U+2FFF, or U+F000 to U+FFFF.
abbrev pub may_be_foreign : ℕ → Bool
may_be_foreign b = (nat_lt b 32 && not (b == line_feed)) || b == 127 || b == 194 || b == 226 || b == 239

abbrev pub is_line_feed : ℕ → Bool
is_line_feed b = b == line_feed

-- the byte may close quotes, begin an escape, or precede a document mark: it is a quote, a backslash or a
-- line feed
abbrev pub may_end_quoted : ℕ → Bool
may_end_quoted b = b == double_quote || b == single_quote || b == backslash || b == line_feed

-- the number of bytes before the first one that passes a test
abbrev pub len_before : (ℕ → Bool) → List ℕ → ℕ
len_before test bytes = prefix_len (λ b. not (test b)) bytes

-- the index of the lowest bit that is set, or 32 if none is
abbrev pub first_set : ℕ → ℕ
first_set mask = if mask == 0 then 32 else trailing_zeros w64 mask

-- the text from its first line feed on
unfoldable pub to_line_feed : List ℕ → List ℕ
to_line_feed [] = []
to_line_feed (b ∷ rest) = elim (b == line_feed) [ true ↦ b ∷ rest | false ↦ to_line_feed rest ]

-- the byte is a space, as in indentation, or a carriage return, as in an empty line
abbrev pub is_indentation : ℕ → Bool
is_indentation b = b == space || b == carriage_return

-- the byte belongs to unquoted text, whatever follows it, and isn't a blank
abbrev pub is_inner : ℕ → Bool
is_inner b = not (is_blank b || is_line_end b || b == colon || is_bracket b)

-- the text without the bytes at its start that pass `is_inner`
unfoldable pub after_inner : List ℕ → List ℕ
after_inner [] = []
after_inner (b ∷ rest) = elim (is_inner b) [ true ↦ after_inner rest | false ↦ b ∷ rest ]
