-- The displayed texts of characters and errors.
use Rattle.std.specs.Prelude.{◌≡◌, ◌⊎◌, MatchBool, ℕ, ◌/◌, ◌%◌, ◌==◌, ◌||◌, true, false, if◌then◌else◌, nat_lt, List, [], ◌∷◌, ◌++◌, Option, Some, None, codes, encode_utf8}
use Rattle.std.specs.Fmt.{digits, digit_glyph, ◌++?◌}
use Rattle.subst_error.specs.Fault.{Fault, InvalidEscapeSequence, MissingVariableName, UnexpectedCharacter, MissingClosingBrace, NoSuchVariable}
use Rattle.subst_error.specs.declared.CharOrByte.{CharOrByte}
use Rattle.subst_error.specs.declared.CharOrByte.TheVariants.{Char, Byte}

-- a byte as two upper-case hexadecimal digits
abbrev pub two_digits : ℕ → List ℕ
two_digits b = digit_glyph true (b / 16) ∷ digit_glyph true (b % 16) ∷ []

-- a character or an ASCII byte as itself, any other byte as `0x` and two digits
abbrev pub display_of_character : CharOrByte → List ℕ
display_of_character (Char c) = encode_utf8 c
display_of_character (Byte b) = if nat_lt b 0x80 then b ∷ [] else codes "0x" ++ two_digits b

-- a character by its code point, like `\u{200b}`
abbrev pub number_escape : ℕ → List ℕ
number_escape c = codes "\\u{" ++ (digits 16 false c ++ codes "}")

-- an ASCII character as it appears inside single quotes: itself, or its escape
abbrev pub ascii_escape : ℕ → List ℕ
ascii_escape c =
    if c == 0x00 then codes "\\0" else
    if c == 0x09 then codes "\\t" else
    if c == 0x0A then codes "\\n" else
    if c == 0x0D then codes "\\r" else
    if c == 0x27 then codes "\\'" else
    if c == 0x5C then codes "\\\\" else
    if nat_lt c 0x20 || c == 0x7F then number_escape c else
    c ∷ []

-- a text between single quotes
abbrev pub in_quotes : List ℕ → List ℕ
in_quotes shown = codes "'" ++ (shown ++ codes "'")

-- an ASCII character in single quotes, or `None` for any other character, since it may be escaped or not
abbrev pub quoted_char : ℕ → Option (List ℕ)
quoted_char c = if nat_lt c 0x80 then Some (in_quotes (ascii_escape c)) else None

-- `text` is the character c in single quotes. If c isn't ASCII, it is unchanged or escaped by its code point.
-- The standard library's table of printable characters decides which.
abbrev pub IsQuotedChar : ℕ → List ℕ → Type 0
IsQuotedChar c text = MatchBool (nat_lt c 0x80)
    (text ≡ in_quotes (ascii_escape c))
    ((text ≡ in_quotes (encode_utf8 c)) ⊎ (text ≡ in_quotes (number_escape c)))

-- The text of a character or byte in single quotes, or `None` for a character that isn't ASCII. An ASCII byte
-- is quoted like its character; any other byte by its two digits, like `'\xFF'`.
abbrev pub quoted_of : CharOrByte → Option (List ℕ)
quoted_of (Char c) = quoted_char c
quoted_of (Byte b) = if nat_lt b 0x80 then quoted_char b else Some (in_quotes (codes "\\x" ++ two_digits b))

-- `text` is the character or byte in single quotes; a character that isn't ASCII may be escaped or not
abbrev pub IsQuoted : CharOrByte → List ℕ → Type 0
IsQuoted (Char c) text = IsQuotedChar c text
IsQuoted (Byte b) text = quoted_of (Byte b) ≡ Some text

-- the text of a fault, or `None` if the text quotes a character that isn't ASCII and so may be escaped or not
abbrev pub display_of_fault : Fault → Option (List ℕ)
display_of_fault (InvalidEscapeSequence position (Some c)) =
    Some (codes "Invalid escape sequence: \\" ++ display_of_character c)
display_of_fault (InvalidEscapeSequence position None) =
    Some (codes "Invalid escape sequence: missing escape character")
display_of_fault (MissingVariableName position len) = Some (codes "Missing variable name")
display_of_fault (UnexpectedCharacter position c expected) =
    Some (codes "Unexpected character: ") ++? quoted_of c ++? Some (codes ", expected " ++ expected)
display_of_fault (MissingClosingBrace position) = Some (codes "Missing closing brace")
display_of_fault (NoSuchVariable position name) = Some (codes "No such variable: $" ++ name)

-- `text` is the text of the fault, in which a quoted character that isn't ASCII may be escaped or not
abbrev pub IsDisplayOfFault : Fault → List ℕ → Type 0
IsDisplayOfFault (UnexpectedCharacter position c expected) text =
    (quoted : List ℕ) × IsQuoted c quoted
    × (text ≡ codes "Unexpected character: " ++ (quoted ++ (codes ", expected " ++ expected)))
IsDisplayOfFault fault text = display_of_fault fault ≡ Some text

-- The text of an error: the text of its fault, or `out of memory` if it states no fault. `None` if the text
-- quotes a character that isn't ASCII.
abbrev pub display_of_error : Option Fault → Option (List ℕ)
display_of_error (Some fault) = display_of_fault fault
display_of_error None = Some (codes "out of memory")

-- `text` is the text of an error: the text of its fault, or `out of memory` if it states no fault
abbrev pub IsDisplayOfError : Option Fault → List ℕ → Type 0
IsDisplayOfError (Some fault) text = IsDisplayOfFault fault text
IsDisplayOfError None text = text ≡ codes "out of memory"
