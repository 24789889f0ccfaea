-- Decoding of scalars, from a token to its value. Each byte of a token decodes to a piece of the value, or to
-- nothing.
use Rattle.std.specs.Prelude.{ℕ, ◌==◌, ◌+◌, ◌-◌, ◌*◌, ◌&&◌, ◌||◌, Bool, false, true, not, List, [], ◌∷◌, take, length, map, if◌then◌else◌, Option, Some, None, nat_lt, option_map, slice_get}
use Rattle.subst_yaml_reader.specs.Bytes.{begins, is_blank, is_line_end, line_feed, carriage_return, single_quote, hyphen, backslash, underscore}
use Rattle.subst_yaml_reader.specs.Runs.{closes, digits_after, escape_after, hex_value}
use Rattle.subst_yaml_reader.specs.Scalar.{after_byte, digit_at, header}
use Rattle.subst_yaml_reader.specs.Values.{folded, folded_lines}
use Rattle.subst_yaml_reader.specs.declared.folded.Piece.{Piece}
use Rattle.subst_yaml_reader.specs.declared.folded.Piece.TheVariants as piece
use Rattle.subst_yaml_reader.specs.declared.event.Style.{Style}
use Rattle.subst_yaml_reader.specs.declared.event.Style.TheVariants as style
use Rattle.subst_yaml_reader.specs.declared.runs.Escape.{Escape}
use Rattle.subst_yaml_reader.specs.declared.runs.Escape.TheVariants.{Nothing, Escaped, Digits}

-- the piece that a byte outside an escape decodes to
abbrev pub piece_of : ℕ → Piece
piece_of b = if is_blank b || is_line_end b then piece.White b else piece.Byte b

-- The piece that the byte b in single quotes decodes to, or `None` if the quotes are closed before b. Two
-- quotes inside decode to one. `quoted` is whether b follows a quote that either is the first of two or
-- closes the token.
abbrev pub single_step : (quoted : Bool) → ℕ → Option Piece
single_step quoted b =
    if b == single_quote then Some (if quoted then piece.Byte b else piece.Nothing)
    else if quoted then None
    else Some (piece_of b)

unfoldable pub single : (quoted : Bool) → List ℕ → Option (List Piece)
single quoted [] = if quoted then Some [] else None
single quoted (b ∷ rest) =
    elim (single_step quoted b)
    [ None ↦ None | Some g ↦ option_map (λ more. g ∷ more) (single (b == single_quote && not quoted) rest) ]

-- the character of an escape with one byte after the backslash
abbrev pub escaped : ℕ → ℕ
escaped b =
    if b == 48 then 0
    else if b == 97 then 7
    else if b == 98 then 8
    else if b == 116 then 9
    else if b == 110 then 10
    else if b == 118 then 11
    else if b == 102 then 12
    else if b == 114 then 13
    else if b == 101 then 27
    else if b == 78 then 133
    else if b == underscore then 160
    else if b == 76 then 8232
    else if b == 80 then 8233
    else b

-- The piece that the byte b in double quotes decodes to, in this state of an escape. The last byte of an
-- escape decodes to the escape's character or line end, and each byte before it to nothing.
abbrev pub piece_after : Escape → ℕ → Piece
piece_after Nothing b = if b == backslash then piece.Nothing else piece_of b
piece_after Escaped b =
    if nat_lt 0 (digits_after b) then piece.Nothing
    else if is_line_end b then piece.EscapedEnd b
    else piece.Character (escaped b)
piece_after (Digits left value) b =
    if nat_lt 1 left then piece.Nothing else piece.Character (value * 16 + hex_value b)

abbrev pub double_step : Escape → ℕ → Option Escape
double_step held b = escape_after held b []

unfoldable pub double : Escape → List ℕ → Option (List Piece)
double held [] = None
double held (b ∷ rest) =
    elim (closes held b) [
      | true ↦ Some []
      | false ↦ elim (double_step held b)
          [ None ↦ None | Some next ↦ option_map (λ more. piece_after held b ∷ more) (double next rest) ]
    ]

-- The lines of a block scalar, each without its indentation of `indent` bytes. Each line end becomes a line
-- feed. The list is what remains of the scalar. If `in_text`, the indentation of its first line is already
-- removed; otherwise `column` bytes of this indentation are.
unfoldable pub lines_of : (indent : ℕ) → (in_text : Bool) → (column : ℕ) → List ℕ → List ℕ
lines_of indent in_text column [] = []
lines_of indent in_text column (b ∷ rest) =
    elim (b == line_feed) [
      | true ↦ line_feed ∷ lines_of indent false 0 rest
      | false ↦ elim (b == carriage_return) [
        | true ↦ lines_of indent in_text column rest
        | false ↦ elim (in_text || not (nat_lt column indent))
            [ true ↦ b ∷ lines_of indent true column rest | false ↦ lines_of indent false (column + 1) rest ]
      ]
    ]

-- there is a last byte, and it is a line feed
abbrev pub is_ended : Option ℕ → Bool
is_ended None = false
is_ended (Some b) = b == line_feed

-- the bytes without the line feed at their end, if they have one
abbrev pub without_end : List ℕ → List ℕ
without_end bytes =
    if is_ended (slice_get bytes (length bytes - 1)) then take (length bytes - 1) bytes else bytes

-- The value of a block scalar in the style `|`. `text` is the text after the `|`, and `head` is the part of
-- `text` from the end of the header's line on. If the sign in the header is `-`, the line feed at the end of
-- the value is left out.
abbrev pub lines_after : (indent : ℕ) → List ℕ → ℕ × Bool × List ℕ → List ℕ
lines_after indent text (digit, keep, head) =
    if begins hyphen (digit_at text).1
    then without_end (lines_of indent false 0 (after_byte line_feed (after_byte carriage_return head)))
    else lines_of indent false 0 (after_byte line_feed (after_byte carriage_return head))

-- the value of a block scalar in the style `|`, from the text after the `|`, or `None` if its header is wrong
unfoldable pub literal_value : (indent : ℕ) → List ℕ → Option (List ℕ)
literal_value indent text = option_map (lines_after indent text) (header text)

-- the value of a token in quotes or of a block scalar; `None` for other styles. `rest` is the token without
-- its first byte
abbrev pub value_after : Style → (indent : ℕ) → List ℕ → Option (List ℕ)
value_after style.Single indent rest = option_map (folded []) (single false rest)
value_after style.Double indent rest = option_map (folded []) (double Nothing rest)
value_after style.Literal indent rest = literal_value indent rest
value_after style.Folded indent rest = option_map (folded_lines None (line_feed ∷ [])) (literal_value indent rest)
value_after _ indent rest = None

abbrev pub is_plain_style : Style → Bool
is_plain_style style.Plain = true
is_plain_style _ = false

-- The value of a token of the style s, or `None` for an alias. If the token isn't of this style, the result
-- may be `None`. `indent` is the number of spaces before each line of a block scalar.
unfoldable pub value_of : Style → (indent : ℕ) → (token : List ℕ) → Option (List ℕ)
value_of s indent [] = None
value_of s indent (b ∷ rest) =
    if is_plain_style s then Some (folded [] (map piece_of (b ∷ rest))) else value_after s indent rest
