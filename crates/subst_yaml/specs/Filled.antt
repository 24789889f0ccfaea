-- YAML texts with their values filled in directly in the text. `ask` relates a string to its answers.
use Rattle.std.specs.Prelude.{◌≡◌, ◌⊎◌, ℕ, ◌==◌, ◌+◌, ◌-◌, ◌&&◌, ◌||◌, Bool, false, true, not, nat_lt, List, [], ◌∷◌, ◌++◌, drop, take, length, if◌then◌else◌, slice_range, Option, Some, None, option_and_then}
use Rattle.std.specs.Str.{is_utf8}
use Rattle.std.specs.List.{list_any}
use Rattle.subst_language.specs.Language.Answer.{Answer, Gives}
use Rattle.subst_yaml_reader.specs.declared.event.Event.{Event}
use Rattle.subst_yaml_reader.specs.declared.event.Event.TheVariants.{Key, Value, FlowKey}
use Rattle.subst_yaml_reader.specs.declared.event.Span.{Span}
use Rattle.subst_yaml_reader.specs.declared.event.Style.{Style}
use Rattle.subst_yaml_reader.specs.declared.event.Style.TheVariants as style
use Rattle.subst_yaml_reader.specs.Decoded.{value_of}

-- the bytes at a span
abbrev pub token_at : List ℕ → Span → List ℕ
token_at text span = slice_range text span.start span.«end»

-- a dollar or a backslash: a string whose token has neither is unchanged
abbrev pub is_mark : ℕ → Bool
is_mark b = b == 36 || b == 92

abbrev pub is_alias : Style → Bool
is_alias style.Alias = true
is_alias _ = false

-- the value of a token may change: the token contains a dollar or a backslash, and isn't an alias
unfoldable pub may_change : Style → (token : List ℕ) → Bool
may_change style token = not (is_alias style) && list_any is_mark token

-- the bytes if they are UTF-8, and otherwise `None`
abbrev pub text_of : List ℕ → Option (List ℕ)
text_of bytes = if is_utf8 bytes then Some bytes else None

-- The string that a value's token spells, or `None` for an alias or a token that can't be read. In a value
-- with `|` or `>`, `indent` is the number of spaces before each line.
unfoldable pub string_of : Style → (indent : ℕ) → (token : List ℕ) → Option (List ℕ)
string_of style indent token = option_and_then text_of (value_of style indent token)

-- a list of the one string `value`, or the empty list if there is no string or `may_change` is false
abbrev pub strings_if : (may_change : Bool) → (value : Option (List ℕ)) → List (List ℕ)
strings_if true (Some x) = x ∷ []
strings_if true None = []
strings_if false value = []

-- a list of the one string that a value's token spells, or the empty list if there is none or the value can't
-- change
abbrev pub strings_of : Style → (indent : ℕ) → (token : List ℕ) → List (List ℕ)
strings_of style indent token = strings_if (may_change style token) (string_of style indent token)

abbrev pub strings_at : (text : List ℕ) → Event → List (List ℕ)
strings_at text (Value style span in_flow indent) = strings_of style indent (token_at text span)
strings_at text _ = []

-- the strings of the values that may change, in the order of the events
abbrev pub strings_in : (text : List ℕ) → List Event → List (List ℕ)
strings_in text [] = []
strings_in text (e ∷ es) = strings_at text e ++ strings_in text es

-- The value is unchanged: it can't change, its string is filled in as itself, or it has no string.
pub data Stays (ask : List ℕ → Answer → Type 0) (style : Style) (indent : ℕ) (token : List ℕ) : Type 0 where
  fixed : may_change style token ≡ false → Stays ask style indent token
  itself : (x : List ℕ) → string_of style indent token ≡ Some x → ask x (Gives x)
      → Stays ask style indent token
  none : string_of style indent token ≡ None → Stays ask style indent token

-- The value changes: its string becomes another string, y.
pub record Changes (ask : List ℕ → Answer → Type 0) (style : Style) (indent : ℕ) (token : List ℕ)
    (y : List ℕ) : Type 0 where
  pub string : List ℕ
  pub marked : may_change style token ≡ true
  pub read : string_of style indent token ≡ Some string
  pub gives : ask string (Gives y)
  pub other : ¬ (y ≡ string)

-- the start of an event's token, or i if the event has no token
abbrev pub start_of : (i : ℕ) → Event → ℕ
start_of i (Key depth style span) = span.start
start_of i (Value style span in_flow indent) = span.start
start_of i (FlowKey style span) = span.start
start_of i _ = i

-- the end of an event's token, or i if the event has no token
abbrev pub end_of : (i : ℕ) → Event → ℕ
end_of i (Key depth style span) = span.«end»
end_of i (Value style span in_flow indent) = span.«end»
end_of i (FlowKey style span) = span.«end»
end_of i _ = i

-- the byte is a digit or a sign
abbrev pub is_sign : ℕ → Bool
is_sign b = b == 43 || b == 45 || (nat_lt 47 b && nat_lt b 58)

-- the text without the leading bytes for which `is_sign` holds: digits and signs
unfoldable pub after_signs : List ℕ → List ℕ
after_signs [] = []
after_signs (b ∷ rest) = elim (is_sign b) [ true ↦ after_signs rest | false ↦ b ∷ rest ]

-- the text after its first line
unfoldable pub after_line : List ℕ → List ℕ
after_line [] = []
after_line (b ∷ rest) = elim (b == 10) [ true ↦ rest | false ↦ after_line rest ]

-- the first line of a text, with its line end
abbrev pub line_of : List ℕ → List ℕ
line_of text = take (length text - length (after_line text)) text

-- the rest of a token's first line, after `|` or `>` and any digits and signs: a comment, if any, and the
-- line end
abbrev pub header_rest : (token : List ℕ) → List ℕ
header_rest token = line_of (after_signs (drop 1 token))

abbrev pub is_block : Style → Bool
is_block style.Literal = true
is_block style.Folded = true
is_block _ = false

-- `style` is `|` or `>`, and `other` isn't
abbrev pub is_unblocked : Style → Style → Bool
is_unblocked style other = is_block style && not (is_block other)

-- The bytes that the output must have directly after the second event's token. The first event is from
-- `source`, the second from the output. If both are values, and only the first has `|` or `>`, these bytes
-- are the comment and line end of its header. Otherwise there are no such bytes.
abbrev pub rest_of_value : (source : List ℕ) → Event → Event → List ℕ
rest_of_value source (Value style span in_flow indent) (Value other_style other other_in_flow other_indent) =
    if is_unblocked style other_style then header_rest (token_at source span) else []
rest_of_value source _ _ = []

-- The second value results from filling in the first. Each value is a style, an indentation and a token.
-- Either the first value is unchanged and the second equals it, or the string of the first becomes the string
-- of the second.
abbrev pub IsFilledValue : (ask : List ℕ → Answer → Type 0) → Style → (indent : ℕ) → (token : List ℕ)
    → Style → (indent : ℕ) → (token : List ℕ) → Type 0
IsFilledValue ask style indent token other_style other_indent other =
    ((other_style ≡ style) × (other_indent ≡ indent) × (other ≡ token) × Stays ask style indent token)
    ⊎ ((y : List ℕ) × Changes ask style indent token y × (string_of other_style other_indent other ≡ Some y))

-- An event of `source` is filled in as the event f of `output`. A value becomes a value, changed or
-- unchanged. A key becomes a key with the same bytes and style, and any other event becomes an equal event.
abbrev pub IsFilledEvent : (ask : List ℕ → Answer → Type 0) → (source output : List ℕ) → Event → Event
    → Type 0
IsFilledEvent ask source output (Value style span in_flow indent) f =
    (other_style : Style) × (other : Span) × (other_indent : ℕ)
    × (f ≡ Value other_style other in_flow other_indent)
    × IsFilledValue ask style indent (token_at source span) other_style other_indent (token_at output other)
IsFilledEvent ask source output (Key depth style span) f =
    (other : Span) × (f ≡ Key depth style other) × (token_at output other ≡ token_at source span)
IsFilledEvent ask source output (FlowKey style span) f =
    (other : Span) × (f ≡ FlowKey style other) × (token_at output other ≡ token_at source span)
IsFilledEvent ask source output e f = f ≡ e

-- The events of `source`, in the first list, are filled in one by one as the events of `output`, in the
-- second list. From position i of `source` and position j of `output` on, all bytes outside of the events'
-- tokens are equal, with one exception. If a value has `|` or `>` only in `source`, the comment and line end
-- of its header follow its token in `output`.
abbrev pub AreFilled : (ask : List ℕ → Answer → Type 0) → (source output : List ℕ) → (i j : ℕ) → List Event
    → List Event → Type 0
AreFilled ask source output i j [] fs = (fs ≡ []) × (drop j output ≡ drop i source)
AreFilled ask source output i j (e ∷ es) fs =
    (f : Event) × (more : List Event) × (fs ≡ f ∷ more) × IsFilledEvent ask source output e f
    × (slice_range output j (start_of j f) ≡ slice_range source i (start_of i e))
    × (let rest = rest_of_value source e f in
    (slice_range output (end_of j f) (end_of j f + length rest) ≡ rest)
    × AreFilled ask source output (end_of i e) (end_of j f + length rest) es more)
