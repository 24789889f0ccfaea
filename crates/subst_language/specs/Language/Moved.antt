-- Faults of a text that follows another one.
use Rattle.std.specs.Prelude.{ℕ, ◌+◌}
use Rattle.subst_error.specs.Fault.{Fault, InvalidEscapeSequence, MissingVariableName, UnexpectedCharacter, MissingClosingBrace, NoSuchVariable}

-- the fault with its position increased by n, also if the fault is a missing variable
abbrev pub moved : ℕ → Fault → Fault
moved n (InvalidEscapeSequence position character) = InvalidEscapeSequence (position + n) character
moved n (MissingVariableName position len) = MissingVariableName (position + n) len
moved n (UnexpectedCharacter position character expected) =
    UnexpectedCharacter (position + n) character expected
moved n (MissingClosingBrace position) = MissingClosingBrace (position + n)
moved n (NoSuchVariable position name) = NoSuchVariable (position + n) name
