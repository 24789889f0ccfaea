-- Classes of bytes and characters. A text is the list of the bytes that are left to read.
use Rattle.std.specs.Prelude.{ℕ, ◌==◌, ◌&&◌, ◌||◌, Bool, false, true, not, slice_index, List, [], ◌∷◌, nat_lt}
use Rattle.std.specs.Char.{is_ascii_alphanumeric}

-- names of bytes
abbrev pub tab : ℕ
tab = 9

abbrev pub line_feed : ℕ
line_feed = 10

abbrev pub carriage_return : ℕ
carriage_return = 13

abbrev pub space : ℕ
space = 32

abbrev pub exclamation_mark : ℕ
exclamation_mark = 33

abbrev pub double_quote : ℕ
double_quote = 34

abbrev pub hash : ℕ
hash = 35

abbrev pub percent_sign : ℕ
percent_sign = 37

abbrev pub ampersand : ℕ
ampersand = 38

abbrev pub single_quote : ℕ
single_quote = 39

abbrev pub asterisk : ℕ
asterisk = 42

abbrev pub plus_sign : ℕ
plus_sign = 43

abbrev pub comma : ℕ
comma = 44

abbrev pub hyphen : ℕ
hyphen = 45

abbrev pub dot : ℕ
dot = 46

abbrev pub slash : ℕ
slash = 47

abbrev pub colon : ℕ
colon = 58

abbrev pub greater_than : ℕ
greater_than = 62

abbrev pub question_mark : ℕ
question_mark = 63

abbrev pub at_sign : ℕ
at_sign = 64

abbrev pub opening_square : ℕ
opening_square = 91

abbrev pub backslash : ℕ
backslash = 92

abbrev pub closing_square : ℕ
closing_square = 93

abbrev pub underscore : ℕ
underscore = 95

abbrev pub grave_accent : ℕ
grave_accent = 96

abbrev pub opening_curly : ℕ
opening_curly = 123

abbrev pub vertical_bar : ℕ
vertical_bar = 124

abbrev pub closing_curly : ℕ
closing_curly = 125

-- a space or a tab
abbrev pub is_blank : ℕ → Bool
is_blank b = b == space || b == tab

-- a line feed or a carriage return; in a text that every reader accepts, a line feed follows each carriage
-- return
abbrev pub is_line_end : ℕ → Bool
is_line_end b = b == line_feed || b == carriage_return

-- one of `,[]{}`, which end unquoted text in brackets
abbrev pub is_bracket : ℕ → Bool
is_bracket b = b == comma || b == opening_square || b == closing_square || b == opening_curly || b == closing_curly

-- one of `,[]{}#&*!|>'"%@` and the grave accent, which can't begin unquoted text
abbrev pub is_indicator : ℕ → Bool
is_indicator b = is_bracket b || b == hash || b == ampersand || b == asterisk || b == exclamation_mark
    || b == vertical_bar || b == greater_than || b == single_quote || b == double_quote || b == percent_sign
    || b == at_sign || b == grave_accent

-- a letter, a digit, `_` or `-`; in a tag also `.`, `/` or `:`
abbrev pub is_name_byte : (in_tag : Bool) → ℕ → Bool
is_name_byte in_tag b = is_ascii_alphanumeric b || b == underscore || b == hyphen
    || (in_tag && (b == dot || b == slash || b == colon))

-- the text begins with this byte
abbrev pub begins : ℕ → List ℕ → Bool
begins b [] = false
begins b (first ∷ rest) = first == b

-- the line is over: the text is empty, or begins with a line end
abbrev pub is_line_over : List ℕ → Bool
is_line_over [] = true
is_line_over (b ∷ rest) = is_line_end b

-- the text is empty, or begins with a blank or a line end
abbrev pub is_apart : List ℕ → Bool
is_apart [] = true
is_apart (b ∷ rest) = is_blank b || is_line_end b

-- the text begins with this byte, followed by white space or the end, like the `- ` of an item
abbrev pub is_mark : ℕ → List ℕ → Bool
is_mark b [] = false
is_mark b (first ∷ rest) = first == b && is_apart rest

-- the text begins with this byte three times, followed by white space or the end
abbrev pub is_mark_of_three : ℕ → List ℕ → Bool
is_mark_of_three b [] = false
is_mark_of_three b (first ∷ []) = false
is_mark_of_three b (first ∷ (second ∷ rest)) = first == b && second == b && is_mark b rest

-- the text begins with `---` or `...`, followed by white space or the end
abbrev pub is_document_mark : List ℕ → Bool
is_document_mark text = is_mark_of_three hyphen text || is_mark_of_three dot text

-- a control character other than tabs and line feeds; a carriage return isn't one if `next`, the byte after
-- it, is a line feed
abbrev pub is_control : ℕ → (next : ℕ) → Bool
is_control b next = b == 127
    || (nat_lt b 32 && not (b == tab) && not (b == line_feed) && not (b == carriage_return && next == line_feed))

-- the bytes b, `next` and `third` begin with one of U+0080 to U+009F, U+2028, U+2029, U+FEFF, U+FFFE and
-- U+FFFF
abbrev pub is_odd : ℕ → (next third : ℕ) → Bool
is_odd b next third = (b == 194 && nat_lt next 160)
    || (b == 226 && next == 128 && (third == 168 || third == 169))
    || (b == 239 && next == 187 && third == 191)
    || (b == 239 && next == 191 && (third == 190 || third == 191))

-- the byte b, before `rest`, begins a character that not every reader accepts
abbrev pub is_foreign : ℕ → (rest : List ℕ) → Bool
is_foreign b rest = is_control b (slice_index rest 0) || is_odd b (slice_index rest 0) (slice_index rest 1)
