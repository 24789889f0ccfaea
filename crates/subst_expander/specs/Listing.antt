-- The variables that are listed.
use Rattle.std.specs.Prelude.{◌≡◌, ℕ, ◌+◌, ◌-◌, ◌==◌, ◌&&◌, Bool, List, Option, Some, None, get_or, if◌then◌else◌, length, map, string_bytes}
use Rattle.subst.specs.Calls.Variables.{kind_of}
use Rattle.subst.specs.Language.Sentence.{ByTree}
use Rattle.subst.specs.Language.Variables.{variables_of, Kind, Required, OrDefault, OrNothing, Variable}
use Rattle.subst.specs.Reading.{Listing, VariableAt}
use Rattle.subst_expander.specs.Fill.{grammar_in}
use Rattle.subst_expander.specs.declared.kinds.Placeholders.{Placeholders}
use Rattle.subst_expander.specs.declared.kinds.Placeholders.TheVariants.{Own, Chosen}
use Rattle.subst_expander.specs.declared.part.Occurrence.{Occurrence}
use Rattle.subst_foreign.specs.declared.forms.Missing.{Missing}
use Rattle.subst_foreign.specs.declared.forms.Missing.TheVariants.{Nothing}
use Rattle.subst_foreign.specs.declared.forms.Operator.{Operator}
use Rattle.subst_foreign.specs.declared.forms.Operator.TheVariants.{Question, ColonQuestion, Plus, ColonPlus}

-- a use, as a variable of the definitions
abbrev pub listed : Occurrence → Variable
listed it = record { position = it.range.start; name = string_bytes it.name; kind = kind_of it.kind }

-- how an unset variable with this operator expands, or the kind `other` without an operator
abbrev pub kind_by : (other : Kind) → Option Operator → Kind
kind_by other None = other
kind_by other (Some Question) = Required
kind_by other (Some ColonQuestion) = Required
kind_by other (Some Plus) = OrNothing
kind_by other (Some ColonPlus) = OrNothing
kind_by other (Some operator) = OrDefault

-- how an unset variable without an operator expands, given whether it is optional
abbrev pub kind_without : Missing → (optional : Bool) → Kind
kind_without Nothing optional = OrNothing
kind_without missing optional = if optional then OrNothing else Required

-- the name at this position of `s` follows an opening brace, and a question mark follows the name
abbrev pub is_optional : (s : List ℕ) → (position : ℕ) → (name : List ℕ) → Bool
is_optional s position name = get_or s (position - 1) 0 == 123 && get_or s (position + length name) 0 == 63

-- a variable of another tool's text `s`, as a variable of the definitions
abbrev pub variable_in : Missing → (s : List ℕ) → VariableAt → Variable
variable_in missing s v = record {
  position = v.position;
  name = v.name;
  kind = kind_by (kind_without missing (is_optional s v.position v.name)) v.operator;
}

-- `uses` are all variables of the source `s`, in order, with each use of a variable
abbrev pub AreUses : Placeholders → (s : List ℕ) → List Occurrence → Type 0
AreUses Own s uses = ByTree s (λ t. map listed uses ≡ variables_of 0 t)
AreUses (Chosen chosen) s uses = (variables : List VariableAt) × Listing (grammar_in chosen None) 0 0 s variables
    × (map listed uses ≡ map (variable_in chosen.missing s) variables)
