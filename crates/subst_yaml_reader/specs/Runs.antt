-- The ends of tokens. A text is the list of the bytes that are left. Most definitions map a text that begins
-- with a token to the text after the token.
use Rattle.std.specs.Prelude.{ℕ, zero, suc, length, ◌==◌, ◌+◌, ◌-◌, ◌*◌, ◌&&◌, ◌||◌, Bool, false, true, not, List, [], ◌∷◌, if◌then◌else◌, Option, Some, None, nat_lt}
use Rattle.subst_yaml_reader.specs.Bytes.{begins, is_blank, is_bracket, is_document_mark, is_foreign, is_line_end, is_line_over, is_name_byte, line_feed, carriage_return, space, double_quote, hash, single_quote, slash, colon, question_mark, backslash}
use Rattle.subst_yaml_reader.specs.declared.runs.Escape.{Escape}
use Rattle.subst_yaml_reader.specs.declared.runs.Escape.TheVariants.{Nothing, Escaped, Digits}

-- every YAML reader accepts all characters of the text
unfoldable pub is_text : List ℕ → Bool
is_text [] = true
is_text (b ∷ rest) = elim (is_foreign b rest) [ true ↦ false | false ↦ is_text rest ]

-- the text without the spaces and tabs at its start
unfoldable pub after_blanks : List ℕ → List ℕ
after_blanks [] = []
after_blanks (b ∷ rest) = elim (is_blank b) [ true ↦ after_blanks rest | false ↦ b ∷ rest ]

-- the text without the spaces at its start
unfoldable pub after_spaces : List ℕ → List ℕ
after_spaces [] = []
after_spaces (b ∷ rest) = elim (b == space) [ true ↦ after_spaces rest | false ↦ b ∷ rest ]

-- the text without the line ends at its start
unfoldable pub after_line_ends : List ℕ → List ℕ
after_line_ends [] = []
after_line_ends (b ∷ rest) = elim (is_line_end b) [ true ↦ after_line_ends rest | false ↦ b ∷ rest ]

-- the text from the end of its line on
unfoldable pub to_line_end : List ℕ → List ℕ
to_line_end [] = []
to_line_end (b ∷ rest) = elim (is_line_end b) [ true ↦ b ∷ rest | false ↦ to_line_end rest ]

-- the text without the bytes of a name at its start, or of a tag's name if `in_tag`
unfoldable pub after_name : (in_tag : Bool) → List ℕ → List ℕ
after_name in_tag [] = []
after_name in_tag (b ∷ rest) =
    elim (is_name_byte in_tag b) [ true ↦ after_name in_tag rest | false ↦ b ∷ rest ]

-- the role of a byte in the search for the next token: it ends a line, is skipped, begins a comment, or
-- begins the token
pub data LinePart : Type 0 where
  Ends : LinePart
  Passes : LinePart
  Opens : LinePart
  Stops : LinePart

abbrev pub line_part : (comments in_comment : Bool) → ℕ → LinePart
line_part comments in_comment b =
    if b == line_feed then Ends
    else if in_comment || b == carriage_return || b == space then Passes
    else if comments && b == hash then Opens
    else Stops

-- The next token of a text that begins in the indentation of a line. The result is a pair: the length of the
-- source from the start of the token's line on, and the text from the token on. Empty lines are skipped, and
-- so are comments if `comments`. `line` is the length of the source from the start of the line in which the
-- text begins. `in_comment` is whether the text begins in a comment.
unfoldable pub after_lines : (comments in_comment : Bool) → (line : ℕ) → List ℕ → ℕ × List ℕ
after_lines comments in_comment line [] = (line, [])
after_lines comments in_comment line (b ∷ rest) =
    elim (line_part comments in_comment b) [
      | Ends ↦ after_lines comments false (length rest) rest
      | Passes ↦ after_lines comments in_comment line rest
      | Opens ↦ after_lines comments true line rest
      | Stops ↦ (line, b ∷ rest)
    ]

-- a colon before `rest` ends unquoted text: white space or the end follows, or in brackets (`in_flow`) one of
-- `,[]{}?`
abbrev pub is_colon_end : (in_flow : Bool) → (rest : List ℕ) → Bool
is_colon_end in_flow [] = true
is_colon_end in_flow (b ∷ rest) = is_blank b || is_line_end b || (in_flow && (is_bracket b || b == question_mark))

-- Unquoted text ends before the byte b, which `rest` follows: at a line end, at a colon with `is_colon_end`,
-- or at a blank before `#`. In brackets (`in_flow`) it also ends at one of `,[]{}`.
abbrev pub ends_plain : (in_flow : Bool) → ℕ → (rest : List ℕ) → Bool
ends_plain in_flow b rest = is_line_end b || (b == colon && is_colon_end in_flow rest)
    || (is_blank b && begins hash rest) || (in_flow && is_bracket b)

-- The text after one line of unquoted text, from the blanks at the end of that line on. `end` is the text
-- after the last byte so far that isn't a blank.
unfoldable pub after_plain : (in_flow : Bool) → (end : List ℕ) → List ℕ → List ℕ
after_plain in_flow end [] = end
after_plain in_flow end (b ∷ rest) =
    elim (ends_plain in_flow b rest)
    [ true ↦ end | false ↦ after_plain in_flow (if is_blank b then end else rest) rest ]

-- the byte b is a line feed, and `rest`, the text after it, begins with a document mark
abbrev pub breaks : ℕ → (rest : List ℕ) → Bool
breaks b rest = b == line_feed && is_document_mark rest

-- The bytes after the closing quote, in a text that begins inside single quotes. The result is `None` if the
-- text ends, or a document mark begins a line, before the closing quote. `quoted` is whether the byte before
-- the text is a quote that is the closing one unless another quote follows.
unfoldable pub after_single : (quoted : Bool) → List ℕ → Option (List ℕ)
after_single quoted [] = if quoted then Some [] else None
after_single quoted (b ∷ rest) =
    elim (b == single_quote) [
      | true ↦ after_single (not quoted) rest
      | false ↦ elim (quoted || breaks b rest)
          [ true ↦ if quoted then Some (b ∷ rest) else None | false ↦ after_single false rest ]
    ]

-- a backslash and this byte are an escape: one of `0abtnvfreN_LP/"`, a backslash, a blank or a line end
abbrev pub is_escape : ℕ → Bool
is_escape b = b == 48 || b == 97 || b == 98 || b == 116 || b == 110 || b == 118 || b == 102 || b == 114 || b == 101
    || b == 78 || b == 95 || b == 76 || b == 80 || b == slash || b == backslash || b == double_quote || is_blank b
    || is_line_end b

-- the number of digits in an escape with the letter b: 2 for `x`, 4 for `u`, 8 for `U`, and otherwise 0
abbrev pub digits_after : ℕ → ℕ
digits_after b = if b == 120 then 2 else if b == 117 then 4 else if b == 85 then 8 else 0

-- the value of a hexadecimal digit, or 16 for another byte
abbrev pub hex_value : ℕ → ℕ
hex_value b =
    if not (nat_lt b 48) && nat_lt b 58 then b - 48
    else if not (nat_lt b 65) && nat_lt b 71 then b - 55
    else if not (nat_lt b 97) && nat_lt b 103 then b - 87
    else 16

-- a number that isn't a character, since it is a surrogate of UTF-16
abbrev pub is_surrogate : ℕ → Bool
is_surrogate n = not (nat_lt n 55296) && nat_lt n 57344

-- the state of an escape after `digit`, the next of `left` missing digits. `value` is the value of the digits
-- before it. The state is `None` if `digit` is over 15, or if the number can't be a character
abbrev pub with_digit : (left value : ℕ) → (digit : ℕ) → Option Escape
with_digit left value digit =
    if not (nat_lt digit 16) || not (nat_lt value 69632) then None
    else if nat_lt 1 left then Some (Digits (left - 1) (value * 16 + digit))
    else if is_surrogate (value * 16 + digit) then None
    else Some Nothing

-- the state of an escape after the byte b in double quotes, or `None` if b is wrong in this state. The result
-- is also `None` if b is a line feed and `rest`, the text after b, begins with a document mark. The
-- definition is for bytes that don't close the quotes
abbrev pub escape_after : Escape → ℕ → (rest : List ℕ) → Option Escape
escape_after Nothing b rest = if breaks b rest then None else Some (if b == backslash then Escaped else Nothing)
escape_after Escaped b rest =
    if nat_lt 0 (digits_after b) then Some (Digits (digits_after b) 0)
    else if is_escape b && not (breaks b rest) then Some Nothing
    else None
escape_after (Digits left value) b rest = with_digit left value (hex_value b)

-- the byte b closes double quotes: it is a quote, and not in an escape
abbrev pub closes : Escape → ℕ → Bool
closes Nothing b = b == double_quote
closes _ b = false

-- The text after the closing double quote. The list begins inside the quotes, and `held` is the state of the
-- escape there. The result is `None` if no quote closes the value, if an escape is wrong, or if a line
-- begins with a document mark.
unfoldable pub after_double : Escape → List ℕ → Option (List ℕ)
after_double held [] = None
after_double held (b ∷ rest) =
    elim (closes held b) [
      | true ↦ Some rest
      | false ↦ elim (escape_after held b rest) [ None ↦ None | Some next ↦ after_double next rest ]
    ]

-- `column` is past `outer`, the column of a collection, or `outer` is `None`
abbrev pub is_past : Option ℕ → (column : ℕ) → Bool
is_past None column = true
is_past (Some outer) column = nat_lt outer column

-- a line at this column continues unquoted text in a collection at the column `outer`
abbrev pub goes_on : (outer : Option ℕ) → (column : ℕ) → List ℕ → Bool
goes_on outer column [] = false
goes_on outer column (b ∷ rest) = is_past outer column && not (column == 0 && is_document_mark (b ∷ rest))
    && not (b == hash) && not (is_blank b) && not (ends_plain false b rest)

-- the text from a line's first token on, or `None` if the line doesn't continue unquoted text. The unquoted
-- text is in a collection at the column `outer`. `line` is the number of bytes from the start of the line to
-- the end of the source
abbrev pub line_of : (outer : Option ℕ) → ℕ × List ℕ → Option (List ℕ)
line_of outer (line, text) = if goes_on outer (line - length text) text then Some text else None

-- the text from the next line of unquoted text on, or `None` if no line continues it
abbrev pub next_line : (outer : Option ℕ) → List ℕ → Option (List ℕ)
next_line outer text = if is_line_over text then line_of outer (after_lines false false 0 text) else None

-- the text after at most n more lines of unquoted text in a collection at the column `outer`
unfoldable pub after_plain_lines : (n : ℕ) → (outer : Option ℕ) → List ℕ → List ℕ
after_plain_lines zero outer text = text
after_plain_lines (suc n) outer text =
    elim (next_line outer (after_blanks text))
    [ None ↦ text | Some line ↦ after_plain_lines n outer (after_plain false line line) ]

-- The text after the lines of a block scalar, each indented by `indent` spaces. If `in_text`, the text of the
-- current line has begun; otherwise `column` spaces of that line were skipped. `end` is the text after the
-- last line so far that has text. If `keep`, empty lines at the end belong to the scalar, and `end` is the
-- text after the last line so far.
unfoldable pub after_block : (indent : ℕ) → (keep in_text : Bool) → (column : ℕ) → (end : List ℕ) → List ℕ → List ℕ
after_block indent keep in_text column end [] = if in_text || keep then [] else end
after_block indent keep in_text column end (b ∷ rest) =
    elim (b == line_feed) [
      | true ↦ after_block indent keep false 0 (if in_text || keep then rest else end) rest
      | false ↦ elim (in_text || b == carriage_return) [
        | true ↦ after_block indent keep in_text column end rest
        | false ↦ elim (nat_lt column indent) [
          | false ↦ after_block indent keep true column end rest
          | true ↦ elim (b == space) [ true ↦ after_block indent keep false (column + 1) end rest | false ↦ end ]
        ]
      ]
    ]
