-- The lines of .env files as parsed, and their values as shell-style texts.
use Rattle.std.specs.Prelude.{◌==◌, ◌&&◌, ◌||◌, ◌+◌, ℕ, Bool, true, false, not, List, [], ◌∷◌, ◌++◌, codes, drop, length, take, Option, Some, None, if◌then◌else◌}
use Rattle.std.specs.List.{after_first, before_first, list_all, position_or_len}
use Rattle.std.specs.Option.{option_map}
use Rattle.std.specs.Str.{bytes_eq}
use Rattle.subst_expander.specs.Layers.{is_spelled}
use Rattle.subst_expander.specs.ValuesFile.{after_blanks, is_blank, is_line_feed, is_ignored, message_of, without_return}
use Rattle.subst_expander.specs.declared.dotenv.line.Line.{Line as ReadLine}
use Rattle.subst_expander.specs.declared.dotenv.line.Line.TheVariants as read
use Rattle.subst_expander.specs.declared.dotenv.shell_text.Quote.{Quote}
use Rattle.subst_expander.specs.declared.dotenv.shell_text.Quote.TheVariants.{Bare, Single, Double}
use Rattle.subst_expander.specs.declared.dotenv.shell_text.Text.{Text as ReadText}
use Rattle.subst_language.specs.Language.Bytes.{dollar, backslash}
use Rattle.subst_language.specs.Language.Name.{is_name_byte}

-- a value as a shell-style text, and the bytes after the value
pub record Text : Type 0 where
  pub text : List ℕ
  pub rest : List ℕ

-- the text that the code returns, as a `Text`
abbrev pub text_of : ReadText → Text
text_of t = record { text = t.text.items; rest = t.rest.now }

-- the value `found`, if any, with `bytes` put before its text
abbrev pub before : List ℕ → Option Text → Option Text
before bytes found = option_map (λ t. record { text = bytes ++ t.text; rest = t.rest }) found

-- the spelling of a literal dollar in a shell-style text
abbrev pub dollars : List ℕ
dollars = dollar ∷ dollar ∷ []

-- the shell-style text of a backslash and the byte `c`, if they are an escape. In double quotes, `c` is then
-- `n`, `t`, `r`, a double quote, a backslash or a dollar; without quotes, it is a dollar
abbrev pub escape : Quote → ℕ → Option (List ℕ)
escape Double c =
    if c == 110 then Some (10 ∷ []) else if c == 116 then Some (9 ∷ [])
    else if c == 114 then Some (13 ∷ []) else if c == 34 then Some (34 ∷ [])
    else if c == 92 then Some (92 ∷ []) else if c == 36 then Some dollars else None
escape Bare c = if c == 36 then Some dollars else None
escape Single c = None

-- the shell-style text of the bytes `b` and `c`, if they are read together: outside single quotes, an escape
-- or a dollar written twice
abbrev pub pair_text : Quote → (b c : ℕ) → Option (List ℕ)
pair_text Single b c = None
pair_text quote b c =
    if b == backslash then escape quote c else if b == dollar && c == dollar then Some dollars else None

-- the bytes begin with this byte
abbrev pub begins_with : ℕ → List ℕ → Bool
begins_with byte [] = false
begins_with byte (b ∷ s) = b == byte

-- a dollar before the bytes `s` is literal: always in single quotes, and otherwise if `s` begins with a
-- backslash
abbrev pub is_text : Quote → List ℕ → Bool
is_text Single s = true
is_text quote s = begins_with backslash s

-- the shell-style text of the byte `b`, which begins no escape and which the bytes `s` follow
abbrev pub byte_text : Quote → ℕ → List ℕ → List ℕ
byte_text quote b s = if b == dollar && is_text quote s then dollars else b ∷ []

-- the bytes begin with a comment
abbrev pub begins_comment : List ℕ → Bool
begins_comment s = begins_with 35 s

-- the byte `b` before the bytes `s` ends a value: it is the closing quote, or, without quotes, a blank before
-- a comment
abbrev pub closes : Quote → ℕ → List ℕ → Bool
closes Bare b s = is_blank b && begins_comment s
closes Single b s = b == 39
closes Double b s = b == 34

-- the value if the text ends here: outside quotes the empty value; inside quotes none, since the closing
-- quote is missing
abbrev pub at_end : Quote → Option Text
at_end Bare = Some (record { text = []; rest = [] })
at_end _ = None

-- `pair` prepended to the value `after_pair`, or, without a `pair`, `bytes` prepended to the value
-- `after_byte`; `pair` is the text that two bytes become, `bytes` the text that one byte becomes
abbrev pub joined : Option (List ℕ) → List ℕ → Option Text → Option Text → Option Text
joined (Some pair) bytes after_pair after_byte = before pair after_pair
joined None bytes after_pair after_byte = before bytes after_byte

-- the value with these quotes, parsed from bytes that begin after any opening quote; none if the closing
-- quote is missing
abbrev pub text_in : Quote → List ℕ → Option Text
text_in quote [] = at_end quote
text_in quote (b ∷ []) =
    if closes quote b [] then Some (record { text = []; rest = [] })
    else before (byte_text quote b []) (at_end quote)
text_in quote (b ∷ c ∷ s) =
    if closes quote b (c ∷ s) then Some (record { text = []; rest = c ∷ s })
    else joined (pair_text quote b c) (byte_text quote b (c ∷ s)) (text_in quote s) (text_in quote (c ∷ s))

-- the first line of a text: an empty line or a comment; a line that sets a name to a shell-style text; or a
-- wrong line with the message of its error. `rest` is the text after the line
pub data Line : Type 0 where
  Nothing : (rest : List ℕ) → Line
  Sets : (name text rest : List ℕ) → Line
  Wrong : (why : List ℕ) → Line

-- the line that the code returns, as a `Line`
abbrev pub line_of : ReadLine → Line
line_of (read.Nothing rest) = Nothing rest.now
line_of (read.Sets name text rest) = Sets name.now text.items rest.now
line_of (read.Wrong why) = Wrong why.now

-- A lower bound of the length of a text that begins with the line. It is one more than the length of the text
-- after the line, or 0 for a wrong line
abbrev pub least_len : Line → ℕ
least_len (Nothing rest) = length rest + 1
least_len (Sets name text rest) = length rest + 1
least_len (Wrong why) = 0

-- the bytes without their trailing blanks
abbrev pub trimmed : List ℕ → List ℕ
trimmed [] = []
trimmed (b ∷ s) = if list_all is_blank (b ∷ s) then [] else b ∷ trimmed s

-- the rest of a line has only blanks, or one or more blanks and then a comment
abbrev pub is_ended : List ℕ → Bool
is_ended [] = true
is_ended (b ∷ s) = is_blank b && (begins_comment s || is_ended s)

-- the first line of a text, without its line end; `later_lines` is the text after that line
abbrev pub first_line : List ℕ → List ℕ
first_line s = without_return (before_first is_line_feed s)

abbrev pub later_lines : List ℕ → List ℕ
later_lines s = after_first is_line_feed s

-- the quote of a value that begins with these bytes
abbrev pub opening : List ℕ → Quote
opening [] = Bare
opening (b ∷ s) = if b == 39 then Single else if b == 34 then Double else Bare

-- the message of a value whose quote isn't closed
abbrev pub unclosed : List ℕ
unclosed = codes "missing closing quote"

-- the line that sets a name to this unquoted value, trimmed of blanks on both sides; `later` is the text
-- after the line. Without a value, the line is wrong
abbrev pub bare_line : (name later : List ℕ) → Option Text → Line
bare_line name later None = Wrong unclosed
bare_line name later (Some t) = Sets name (trimmed (after_blanks t.text)) later

-- the line that sets a name to this quoted value; a wrong line if the quote isn't closed, or if more than
-- blanks and a comment follow in the line
abbrev pub quoted_line : (name : List ℕ) → Option Text → Line
quoted_line name None = Wrong unclosed
quoted_line name (Some t) =
    if is_ended (first_line t.rest) then Sets name t.text (later_lines t.rest)
    else Wrong (codes "text after the closing quote")

-- the line that sets a name to a value with these quotes, parsed from `s`, the text after `=`
abbrev pub value_line : Quote → (name s : List ℕ) → Line
value_line Bare name s = bare_line name (later_lines s) (text_in Bare (first_line s))
value_line quote name s = quoted_line name (text_in quote (drop 1 (after_blanks s)))

-- the line that sets a name, parsed from the text `s` after the name and the blanks that follow it; a wrong
-- line with the message `why` if `s` doesn't begin with `=`
abbrev pub line_after : (why name s : List ℕ) → Line
line_after why name [] = Wrong why
line_after why name (b ∷ s) = if b == 61 then value_line (opening (after_blanks s)) name s else Wrong why

-- the number of ASCII letters, digits and underscores that a text begins with
abbrev pub name_len : List ℕ → ℕ
name_len s = position_or_len (λ b. not (is_name_byte b)) s

-- the message of a text's first line, if it doesn't have a variable name and then `=`
abbrev pub wrong_message : List ℕ → List ℕ
wrong_message s = message_of (before_first is_line_feed s)

-- the first line of a text, parsed from the line's name on; a wrong line if the text begins with no variable
-- name
abbrev pub named_line : List ℕ → Line
named_line s =
    if is_spelled (take (name_len s) s)
    then line_after (wrong_message s) (take (name_len s) s) (after_blanks (drop (name_len s) s))
    else Wrong (wrong_message s)

-- the word `export`
abbrev pub export : List ℕ
export = codes "export"

-- the text begins with a blank
abbrev pub begins_blank : List ℕ → Bool
begins_blank [] = false
begins_blank (b ∷ s) = is_blank b

-- the text without a leading `export` and the blanks after it; if no blank follows, `export` is part of a
-- name
abbrev pub without_export : List ℕ → List ℕ
without_export s =
    if bytes_eq (take 6 s) export && begins_blank (drop 6 s) then after_blanks (drop 6 s) else s

-- the first line of a text that doesn't begin with blanks, parsed
abbrev pub begun_line : List ℕ → Line
begun_line s =
    if is_ignored (first_line s) then Nothing (later_lines s) else named_line (without_export s)

-- the first line of a text, parsed
abbrev pub line_in : List ℕ → Line
line_in s = begun_line (after_blanks s)
