-- The fault that a `Halt` states, or `None` if memory ran out. A `Halt` is the parser's own small error.
use Rattle.std.specs.Prelude.{Option, Some, None}
use Rattle.subst_error.specs.Fault.{Fault, InvalidEscapeSequence, MissingVariableName, UnexpectedCharacter, MissingClosingBrace}
use Rattle.subst_language.specs.Language.BadItem.{after_name, after_question_mark}
use Rattle.subst_parse.specs.declared.halt.Halt.{Halt}
use Rattle.subst_parse.specs.declared.halt.Halt.TheVariants.{EscapeAtEnd, BadEscape, NoName, AfterName, AfterQuestionMark, Unclosed, OutOfMemory}

-- the fault that a `Halt` states, or `None` if memory ran out; the fault of an unexpected character includes
-- the message of what was expected
abbrev pub halt_fault : Halt → Option Fault
halt_fault (EscapeAtEnd position) = Some (InvalidEscapeSequence position None)
halt_fault (BadEscape position c) = Some (InvalidEscapeSequence position (Some c))
halt_fault (NoName position len) = Some (MissingVariableName position len)
halt_fault (AfterName position c) = Some (UnexpectedCharacter position c after_name)
halt_fault (AfterQuestionMark position c) = Some (UnexpectedCharacter position c after_question_mark)
halt_fault (Unclosed position) = Some (MissingClosingBrace position)
halt_fault (OutOfMemory e) = None
