-- The texts of refusals.
use Rattle.std.specs.Prelude.{ℕ, List, ◌++◌, codes}
use Rattle.std.specs.Fmt.{decimal}
use Rattle.subst_yaml_reader.specs.declared.error.Error.{Error}
use Rattle.subst_yaml_reader.specs.declared.error.Error.TheVariants as error
use Rattle.subst_yaml_reader.specs.declared.error.Fault.{Fault}
use Rattle.subst_yaml_reader.specs.declared.error.Reason.{Reason}
use Rattle.subst_yaml_reader.specs.declared.error.Reason.TheVariants as reason

-- the text of a reason
abbrev pub display_of_reason : Reason → List ℕ
display_of_reason reason.Tab = codes "a tab in the indentation"
display_of_reason reason.Indentation = codes "an indentation that no earlier line has"
display_of_reason reason.NotAValue = codes "a key or an item in place of a value; quote values that contain ': '"
display_of_reason reason.NotAnEntry = codes "neither a key nor an item of the collection at this indentation"
display_of_reason reason.TextAfterValue = codes "text after a value"
display_of_reason reason.TextAfterEnd = codes "text after '...' without '---'"
display_of_reason reason.ComplexKey = codes "a key after '?' isn't supported"
display_of_reason reason.NoKey = codes "a value without a key isn't supported"
display_of_reason reason.CollectionKey =
    codes "a collection as a key isn't supported; is this a Helm or Jinja template?"
display_of_reason reason.LongKey = codes "a key over several lines or of more than 1,024 bytes isn't supported"
display_of_reason reason.Directive = codes "directives aren't supported, nor values that begin with '%'"
display_of_reason reason.Name = codes "an unsupported name of an anchor, alias or tag"
display_of_reason reason.Properties = codes "a second anchor or tag, or an anchor or tag at an alias"
display_of_reason reason.Quote = codes "a missing closing quote"
display_of_reason reason.Escape = codes "an unknown escape"
display_of_reason reason.Bracket =
    codes "a missing closing bracket, or a bracket or comma out of place"
display_of_reason reason.FlowLines = codes "a value over several lines in brackets; quote it"
display_of_reason reason.BlockHeader =
    codes "text on the same line after '|' or '>' isn't supported, nor a document that is only a '|' or '>' block"
display_of_reason reason.BlockSpaces = codes "a line of spaces before the first line of text after '|' or '>'"
display_of_reason reason.Indicator = codes "a value can't begin with this character; quote it"
display_of_reason reason.Character = codes "a character that some YAML readers reject"
display_of_reason reason.CarriageReturn =
    codes "a carriage return without a line feed"
display_of_reason reason.Zero = codes "a zero byte; is this UTF-16?"

-- the text of a fault: its line and its reason
abbrev pub display_of_fault : Fault → List ℕ
display_of_fault fault =
    codes "line " ++ (decimal fault.line ++ (codes ": " ++ display_of_reason fault.reason))

-- the text of an error
abbrev pub display_of_error : Error → List ℕ
display_of_error (error.Refused fault) = display_of_fault fault
display_of_error error.OutOfMemory = codes "out of memory"
