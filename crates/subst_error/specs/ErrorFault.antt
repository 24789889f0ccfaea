-- The fault that an error states, or `None` if memory ran out.
use Rattle.std.specs.Prelude.{Option, Some, None, string_bytes}
use Rattle.subst_error.specs.Fault.{Fault, InvalidEscapeSequence, MissingVariableName, UnexpectedCharacter, MissingClosingBrace, NoSuchVariable}
use Rattle.subst_error.specs.Expected.{expected_text}
use Rattle.subst_error.specs.declared.UnexpectedCharacter as unexpected
use Rattle.subst_error.specs.declared.Error.{Error}
use Rattle.subst_error.specs.declared.Error.TheVariants as error
use Rattle.subst_error.specs.declared.ParseError.{ParseError}
use Rattle.subst_error.specs.declared.ParseError.TheVariants as parsing
use Rattle.subst_error.specs.declared.ExpandError.{ExpandError}
use Rattle.subst_error.specs.declared.ExpandError.TheVariants as expanding
use Rattle.subst_error.specs.declared.borrowed.ExpandIntoError.{ExpandIntoError}
use Rattle.subst_error.specs.declared.borrowed.ExpandIntoError.TheVariants as expanding_into
use Rattle.subst_error.specs.declared.borrowed.SubstituteIntoError.{SubstituteIntoError}
use Rattle.subst_error.specs.declared.borrowed.SubstituteIntoError.TheVariants as substituting_into

-- the fault of an unexpected character
abbrev pub unexpected_fault : unexpected.UnexpectedCharacter → Fault
unexpected_fault e = UnexpectedCharacter e.position e.character (expected_text e.expected)

-- the fault stated by an error of parsing
abbrev pub parse_fault : ParseError → Option Fault
parse_fault (parsing.InvalidEscapeSequence e) = Some (InvalidEscapeSequence e.position e.character)
parse_fault (parsing.MissingVariableName e) = Some (MissingVariableName e.position e.len)
parse_fault (parsing.UnexpectedCharacter e) = Some (unexpected_fault e)
parse_fault (parsing.MissingClosingBrace e) = Some (MissingClosingBrace e.position)
parse_fault (parsing.OutOfMemory e) = None

-- the fault stated by an error of expansion
abbrev pub expand_fault : ExpandError → Option Fault
expand_fault (expanding.NoSuchVariable e) = Some (NoSuchVariable e.position (string_bytes e.name))
expand_fault (expanding.OutOfMemory e) = None

-- the fault of parsing or of expansion that an error of substitution states
abbrev pub error_fault : Error → Option Fault
error_fault (error.InvalidEscapeSequence e) = Some (InvalidEscapeSequence e.position e.character)
error_fault (error.MissingVariableName e) = Some (MissingVariableName e.position e.len)
error_fault (error.UnexpectedCharacter e) = Some (unexpected_fault e)
error_fault (error.MissingClosingBrace e) = Some (MissingClosingBrace e.position)
error_fault (error.NoSuchVariable e) = Some (NoSuchVariable e.position (string_bytes e.name))
error_fault (error.OutOfMemory e) = None

-- the fault stated by an error of expansion into a caller's buffer
abbrev pub expand_into_fault : ExpandIntoError → Option Fault
expand_into_fault (expanding_into.NoSuchVariable e) = Some (NoSuchVariable e.position e.name.now)
expand_into_fault (expanding_into.OutOfMemory e) = None

-- the fault stated by an error of substitution into a caller's buffer
abbrev pub substitute_into_fault : SubstituteIntoError → Option Fault
substitute_into_fault (substituting_into.Parse e) = parse_fault e
substitute_into_fault (substituting_into.Expand e) = expand_into_fault e
