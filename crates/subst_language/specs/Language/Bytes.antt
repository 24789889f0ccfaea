-- The bytes that have a meaning in the template language, as numbers.
use Rattle.std.specs.Prelude.{◌≢◌, ℕ, ◌==◌, Bool, ◌||◌, IsTrue}

-- `$` begins a placeholder
abbrev pub dollar : ℕ
dollar = 36

-- `:` separates a name from its default
abbrev pub colon : ℕ
colon = 58

-- `?` marks an optional variable, as in `${name?}`
abbrev pub question_mark : ℕ
question_mark = 63

-- `\` begins an escape
abbrev pub backslash : ℕ
backslash = 92

-- `{`
abbrev pub opening_brace : ℕ
opening_brace = 123

-- `}`
abbrev pub closing_brace : ℕ
closing_brace = 125

-- one of the five bytes that a backslash may precede: \ $ { } :
abbrev pub is_escapable : ℕ → Bool
is_escapable b = b == backslash || b == dollar || b == opening_brace || b == closing_brace || b == colon

abbrev pub IsEscapable : ℕ → Type 0
IsEscapable b = IsTrue (is_escapable b)

-- the byte begins neither a placeholder nor an escape
abbrev pub IsPlain : ℕ → Type 0
IsPlain b = (b ≢ dollar) × (b ≢ backslash)
