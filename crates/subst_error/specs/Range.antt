-- The byte range of a fault in its source.
use Rattle.std.specs.Prelude.{ℕ, ◌+◌, List, length, Option, Some, None, encode_utf8}
use Rattle.std.specs.Str.{IsCharBoundary}
use Rattle.std.specs.declared.ops.Range.{Range}
use Rattle.subst_error.specs.Fault.{Fault, InvalidEscapeSequence, MissingVariableName, UnexpectedCharacter, MissingClosingBrace, NoSuchVariable}
use Rattle.subst_error.specs.declared.CharOrByte.{CharOrByte}
use Rattle.subst_error.specs.declared.CharOrByte.TheVariants.{Char, Byte}

-- the number of bytes of a character or byte in a source
abbrev pub source_len : CharOrByte → ℕ
source_len (Char c) = length (encode_utf8 c)
source_len (Byte b) = 1

-- the range of `len` bytes that begins at the byte offset `position`
abbrev pub range_at : ℕ → ℕ → Range ℕ
range_at position len = record { start = position; end = position + len }

-- The byte range of an error: the backslash and the character after it, if there is one; the `$` or `${`
-- without a name; the unexpected character; the opening brace; or the name. Empty, at offset 0, if memory ran
-- out.
abbrev pub range_of : Option Fault → Range ℕ
range_of (Some (InvalidEscapeSequence position (Some c))) = range_at position (1 + source_len c)
range_of (Some (InvalidEscapeSequence position None)) = range_at position 1
range_of (Some (MissingVariableName position len)) = range_at position len
range_of (Some (UnexpectedCharacter position c expected)) = range_at position (source_len c)
range_of (Some (MissingClosingBrace position)) = range_at position 1
range_of (Some (NoSuchVariable position name)) = range_at position (length name)
range_of None = range_at 0 0

-- both ends of the range are character boundaries of the text, and so at most the text's length
abbrev pub IsRangeIn : List ℕ → Range ℕ → Type 0
IsRangeIn s range = IsCharBoundary s range.start × IsCharBoundary s range.end
