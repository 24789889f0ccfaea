-- The parts of a node: names, scalars, and the gaps after them.
use Rattle.std.specs.Prelude.{ℕ, ◌==◌, ◌-◌, ◌&&◌, ◌||◌, Bool, false, true, not, List, [], ◌∷◌, take, length, if◌then◌else◌, Option, Some, None, nat_lt, option_and_then, option_map}
use Rattle.std.specs.List.{list_any}
use Rattle.subst_yaml_reader.specs.Bytes.{begins, is_apart, is_blank, is_indicator, is_line_end, is_line_over, line_feed, exclamation_mark, double_quote, hash, ampersand, single_quote, asterisk, plus_sign, comma, hyphen, colon, question_mark, closing_square, closing_curly}
use Rattle.subst_yaml_reader.specs.Runs.{after_blanks, after_double, after_lines, after_name, after_plain, after_single, to_line_end}
use Rattle.subst_yaml_reader.specs.declared.event.Style.{Style}
use Rattle.subst_yaml_reader.specs.declared.event.Style.TheVariants as style
use Rattle.subst_yaml_reader.specs.declared.runs.Escape.TheVariants.{Nothing}
use Rattle.subst_yaml_reader.specs.declared.scalar.Properties.{Properties}

infixl 10 ◌>>=◌
abbrev pub ◌>>=◌ : {A B : Type 0} → Option A → (A → Option B) → Option B
o >>= f = option_and_then f o

-- the position of a token. The first part is whether the token is the first on its line. The second is the
-- length of the source from the line's start on. The third is the text from the token on
abbrev pub Spot : Type 0
Spot = Bool × ℕ × List ℕ

-- the text without its first byte if that is b
abbrev pub after_byte : ℕ → List ℕ → List ℕ
after_byte b [] = []
after_byte b (first ∷ rest) = if first == b then rest else first ∷ rest

-- the position of a token that is the first on its line
abbrev pub first_of : ℕ × List ℕ → Spot
first_of (line, text) = (true, line, text)

-- The position of the next token, after blanks, comments and line ends. On the line in which the text begins,
-- a comment needs a blank before it. `line` is the number of bytes from the start of that line to the end of
-- the source.
unfoldable pub after_gap : (line : ℕ) → List ℕ → Spot
after_gap line text =
    if is_line_over (after_blanks text) || (begins hash (after_blanks text) && not (begins hash text))
    then first_of (after_lines true false 0 (after_blanks text))
    else (false, line, after_blanks text)

-- A name may end before this text if the text is empty or begins with white space. In brackets (`in_flow`),
-- the name of an anchor or an alias may also end before `,`, `]` or `}`.
abbrev pub is_name_over : (in_flow in_tag : Bool) → List ℕ → Bool
is_name_over in_flow in_tag text = is_apart text
    || (in_flow && not in_tag && (begins comma text || begins closing_square text || begins closing_curly text))

-- the text without the name at its start; `None` if the text begins with no name, or if the byte after the
-- name can't follow one
unfoldable pub name_end : (in_flow in_tag : Bool) → List ℕ → Option (List ℕ)
name_end in_flow in_tag text =
    if nat_lt (length (after_name in_tag text)) (length text)
    && is_name_over in_flow in_tag (after_name in_tag text)
    then Some (after_name in_tag text) else None

-- the text begins with the sign of an anchor `&name`, or of a tag `!name` or `!!name`
abbrev pub is_property : List ℕ → Bool
is_property text = begins ampersand text || begins exclamation_mark text

-- the text without the anchor or the tag at its start, or `None` if the anchor or tag isn't complete
unfoldable pub property : (in_flow : Bool) → List ℕ → Option (List ℕ)
property in_flow text = if begins exclamation_mark text
    then name_end in_flow true (after_byte exclamation_mark (after_byte exclamation_mark text))
    else name_end in_flow false (after_byte ampersand text)

-- whether the text begins with an anchor, and whether with a tag
abbrev pub property_of : List ℕ → Properties
property_of text = record { anchor = begins ampersand text; tag = begins exclamation_mark text }

abbrev pub no_properties : Properties
no_properties = record { anchor = false; tag = false }

-- the union of two parts of a node's properties, or `None` if both have an anchor or both have a tag
abbrev pub joined : Properties → Properties → Option Properties
joined p q = if (p.anchor && q.anchor) || (p.tag && q.tag) then None
    else Some (record { anchor = p.anchor || q.anchor; tag = p.tag || q.tag })

-- the anchor or the tag at the start of the text, and the position of the next token. `line` is the length of
-- the source from the start of the line in which the text begins
unfoldable pub one_property : (in_flow : Bool) → (line : ℕ) → List ℕ → Option (Properties × Spot)
one_property in_flow line text = do
  rest ← property in_flow text
  Some (property_of text, after_gap line rest)

-- a pair: the union of `first` with the anchor or the tag at the start of the text, and the position of the
-- next token
unfoldable pub second_property : (in_flow : Bool) → (line : ℕ) → Properties → List ℕ → Option (Properties × Spot)
second_property in_flow line first text = do
  second ← one_property in_flow line text
  both ← joined first second.0
  Some (both, second.1)

-- the anchor and the tag at the start of the text, each of which may be missing, and the position of the next
-- token
unfoldable pub node_properties : (in_flow : Bool) → (line : ℕ) → List ℕ → Option (Properties × Spot)
node_properties in_flow line text = if not (is_property text) then Some (no_properties, (false, line, text)) else do
  first ← one_property in_flow line text
  if first.1.0 || not (is_property first.1.2) then Some first else second_property in_flow line first.0 first.1.2

-- the byte b, before `rest`, can begin unquoted text. It isn't an indicator or white space. If it is `-`, `?`
-- or `:`, neither white space nor the end follows. In brackets (`in_flow`), it isn't `?` or `:`
abbrev pub begins_plain : (in_flow : Bool) → ℕ → (rest : List ℕ) → Bool
begins_plain in_flow b rest =
    if b == hyphen then not (is_apart rest)
    else if b == question_mark || b == colon then not in_flow && not (is_apart rest)
    else not (is_indicator b || is_blank b || is_line_end b)

-- the scalar or the alias at the start of the text: its style, and the text after it. Of unquoted text, only
-- the first line is read
unfoldable pub scalar : (in_flow : Bool) → List ℕ → Option (Style × List ℕ)
scalar in_flow [] = None
scalar in_flow (b ∷ rest) =
    if b == single_quote then option_map (λ end. (style.Single, end)) (after_single false rest)
    else if b == double_quote then option_map (λ end. (style.Double, end)) (after_double Nothing rest)
    else if b == asterisk then option_map (λ end. (style.Alias, end)) (name_end in_flow false rest)
    else if begins_plain in_flow b rest then Some (style.Plain, after_plain in_flow (b ∷ rest) (b ∷ rest))
    else None

abbrev pub is_plain : Style → Bool
is_plain style.Plain = true
is_plain _ = false

-- The text begins with the colon after a key of the style s. White space or the end follows the colon, with
-- one exception. In brackets (`in_flow`), anything may follow the colon if the key is in quotes or is an
-- alias.
abbrev pub colon_follows : (in_flow : Bool) → Style → List ℕ → Bool
colon_follows in_flow s [] = false
colon_follows in_flow s (b ∷ rest) = b == colon && ((in_flow && not (is_plain s)) || is_apart rest)

-- a key, from `text` to `rest`, is on one line and has at most 1,024 bytes
unfoldable pub fits_key : (text rest : List ℕ) → Bool
fits_key text rest = not (nat_lt 1024 (length text - length rest))
    && not (list_any (λ b. b == line_feed) (take (length text - length rest) text))

-- the digit, 1 to 9, at the start of a text, and the text after the digit. Without such a digit, the result
-- is 0 and the whole text
abbrev pub digit_at : List ℕ → ℕ × List ℕ
digit_at [] = (0, [])
digit_at (b ∷ rest) = if not (nat_lt b 49) && nat_lt b 58 then (b - 48, rest) else (0, b ∷ rest)

-- whether a text begins with `+`, and the text after a `+` or `-` at its start
abbrev pub sign_at : List ℕ → Bool × List ℕ
sign_at [] = (false, [])
sign_at (b ∷ rest) =
    if b == plus_sign then (true, rest) else if b == hyphen then (false, rest) else (false, b ∷ rest)

-- the text from its first line end on, or `None` if anything but blanks and a comment precedes the line end.
-- The comment needs a blank before it
unfoldable pub line_end_of : List ℕ → Option (List ℕ)
line_end_of text =
    if is_line_over (after_blanks text) then Some (after_blanks text)
    else if begins hash (after_blanks text) && not (begins hash text) then Some (to_line_end (after_blanks text))
    else None

-- the header of a block scalar: `digit`, `keep`, and the text from the line end on. `digit` is 0 if the
-- header has no digit. `keep` is whether the sign is `+`. `text` is the text after the digit and the sign
abbrev pub header_of : ℕ → Bool → List ℕ → Option (ℕ × Bool × List ℕ)
header_of digit keep text = option_map (λ end. (digit, keep, end)) (line_end_of text)

-- The header of a block scalar, from the text after its sign. `digit` is the digit before the sign, or 0 if
-- there is none. If it is 0, a digit after the sign is read.
abbrev pub signed_header : ℕ → Bool × List ℕ → Option (ℕ × Bool × List ℕ)
signed_header digit (keep, text) =
    if digit == 0 then header_of (digit_at text).0 keep (digit_at text).1 else header_of digit keep text

-- The header of a block scalar, from the text after its `|` or `>`. It is a triple: the digit, or 0 without
-- one; whether the sign is `+`; and the text from the header's line end on. The digit and the sign are in any
-- order, and each may be missing.
unfoldable pub header : List ℕ → Option (ℕ × Bool × List ℕ)
header text = signed_header (digit_at text).0 (sign_at (digit_at text).1)
