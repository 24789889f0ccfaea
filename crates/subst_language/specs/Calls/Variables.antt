-- Variables in the code, and the missing variables that errors state, as variables of the definitions.
use Rattle.std.specs.Prelude.{ℕ, string_bytes}
use Rattle.std.specs.declared.ops.Range.{Range}
use Rattle.subst_error.specs.declared.NoSuchVariable as errors
use Rattle.subst_language.specs.Language.Variables as variables
use Rattle.subst_language.specs.declared.variable.Variable.{Variable}
use Rattle.subst_language.specs.declared.variable.VariableKind.{VariableKind}
use Rattle.subst_language.specs.declared.variable.VariableKind.TheVariants.{Required, Optional, WithDefault}

-- a kind in the code, as a kind of the definitions
abbrev pub kind_of : VariableKind → variables.Kind
kind_of Required = variables.Required
kind_of Optional = variables.OrNothing
kind_of WithDefault = variables.OrDefault

-- a variable in the code, as a variable of the definitions
abbrev pub variable_of : Variable → variables.Variable
variable_of it = record { position = it.position; name = it.name.now; kind = kind_of it.kind }

-- the missing variable that an error states, as a variable of the definitions
abbrev pub missing_variable : errors.NoSuchVariable → variables.Variable
missing_variable e = variables.required e.position (string_bytes e.name)

-- the range of a variable's name in the source
abbrev pub variable_range : Variable → Range ℕ
variable_range it = variables.name_range (variable_of it)

-- the range of a missing variable's name in the source
abbrev pub missing_range : errors.NoSuchVariable → Range ℕ
missing_range e = variables.name_range (missing_variable e)
