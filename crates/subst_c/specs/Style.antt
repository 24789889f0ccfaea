-- The outputs and faults of other tools' texts that are expanded by a style, for calls from C.
use Rattle.std.specs.Prelude.{◌≡◌, ◌≢◌, ◌⊎◌, ℕ, Bool, true, false, ◌+◌, ◌<◌, ◌≤◌, List, [], length, Option, Some, None, Ok, Err, IsUtf8, if◌then◌else◌}
use Rattle.std.specs.List.{slice_get}
use Rattle.subst_foreign.specs.Foreign.{HasValue, IsKnown}
use Rattle.subst_foreign.specs.Grammar.{Grammar, grammar, operator_text, takes_message}
use Rattle.subst_foreign.specs.Reading.{IsRefusalOf, Listing, VariableAt, end_of, variable_of}
use Rattle.subst_foreign.specs.Template.{IsTemplate, seen_by}
use Rattle.subst_foreign.specs.Text.{Text, IsText, spelling, text_value}
use Rattle.subst_foreign.specs.declared.forms.Forms.{Forms}
use Rattle.subst_foreign.specs.declared.forms.Forms.TheVariants as of
use Rattle.subst_foreign.specs.declared.forms.Missing.{Missing}
use Rattle.subst_foreign.specs.declared.forms.Missing.TheVariants as missing
use Rattle.subst_foreign.specs.declared.forms.Operator.{Operator}
use Rattle.subst_foreign.specs.declared.refused.FormAt.{FormAt}
use Rattle.subst_foreign.specs.declared.refused.TextError.TheVariants as error
use Rattle.subst_language.specs.Language.LookUp.{LookUp}
use Rattle.subst_language.specs.Language.Sentence.{Spells}
use Rattle.subst_language.specs.Language.Tree.{Tree}
use Rattle.subst_language.specs.Language.Value.{value, Missing as IsMissing}
use Rattle.subst_language.specs.Language.Variables.{Variable, variables_of}
use Rattle.subst_c.specs.Foreign.{form_number}
use Rattle.subst_c.specs.Pairs.{pair_value}
use Rattle.subst_c.specs.declared.outcome.TheConstants.{REFUSED}
use Rattle.subst_c.specs.declared.pairs.Pair.{Pair}
use Rattle.subst_c.specs.declared.style.Choice.{Choice}
use Rattle.subst_c.specs.declared.style.Choice.TheVariants as choice
use Rattle.subst_c.specs.declared.style.Choices.{Choices}
use Rattle.subst_c.specs.declared.style.StyleFault.{StyleFault}
use Rattle.subst_c.specs.declared.style.StyleRecord.{StyleRecord}
use Rattle.subst_c.specs.declared.style.StyleError.{StyleError}
use Rattle.subst_c.specs.declared.style.StyleError.TheVariants as style_error

-- the numbers of a style's choices: its forms, its names, and how an unset variable expands
abbrev pub forms_number : Forms → ℕ
forms_number of.Own = 0
forms_number of.Envsubst = 1
forms_number of.Shell = 2
forms_number of.Common = 3

abbrev pub names_number : Choice → ℕ
names_number choice.All = 0
names_number choice.Only = 1
names_number choice.Known = 2

abbrev pub missing_number : Missing → ℕ
missing_number missing.Fault = 0
missing_number missing.Nothing = 1

-- the style has the numbers of these choices
abbrev pub AreOf : StyleRecord → Choices → Type 0
AreOf style choices = (style.forms ≡ forms_number choices.forms)
    × (style.names ≡ names_number choices.names) × (style.missing ≡ missing_number choices.missing)

-- every name is chosen
abbrev pub is_all : Choice → Bool
is_all choice.All = true
is_all _ = false

-- the name is chosen: `All` chooses any name, `Only` a name of the pairs `only`, and `Known` a name with a
-- value or with an operator
abbrev pub Has : Choice → (only given : List Pair) → (operated : Bool) → List ℕ → Type 0
Has choice.All only given operated name = Unit {0}
Has choice.Only only given operated name = HasValue (pair_value only) name
Has choice.Known only given operated name = IsKnown (pair_value given) operated name

-- the grammar of these choices
abbrev pub grammar_of : Choices → (only given : List Pair) → Grammar
grammar_of choices only given =
    grammar choices.forms (is_all choices.names) (Has choices.names only given)

-- The output of the text s is x: s is read as items, and x is the value of the items under the look-up.
pub record IsGiven (g : Grammar) (unset : Missing) (s : List ℕ) (look : LookUp) (x : List ℕ) : Type 0 where
  pub items : Text
  pub read : IsText g false items []
  pub spelled : s ≡ spelling items
  pub gives : text_value g.forms unset items look ≡ Ok x

-- the position of the message of a variable whose name ends at `end`, or 0 if the variable has no operator
-- that takes a message
abbrev pub message_after : Option Operator → (end : ℕ) → ℕ
message_after None end = 0
message_after (Some op) end = if takes_message op then end + length (operator_text op) else 0

-- the record of a form that is refused; its span is the dollar or the brace that begins the form
abbrev pub fault_of_form : FormAt → StyleFault
fault_of_form first = record {
  kind = 7;
  form = form_number first.form;
  position = first.position;
  length = 1;
  message_position = 0;
  message_length = 0;
}

-- the record of an unset variable, with the spans of the variable's name and message
abbrev pub fault_of_variable : VariableAt → StyleFault
fault_of_variable v = record {
  kind = 5;
  form = 0;
  position = v.position;
  length = length v.name;
  message_position = message_after v.operator (v.position + length v.name);
  message_length = length v.message;
}

-- v has the same index among the variables of the text s as the variable `name` at `position` has among those
-- of `template`
pub record HasIndex (g : Grammar) (s template : List ℕ) (position : ℕ) (name : List ℕ) (v : VariableAt)
    : Type 0 where
  pub index : ℕ
  pub listed : List VariableAt
  pub lists : Listing g 0 0 s listed
  pub here : slice_get listed index ≡ Some v
  pub in_template : (t : Tree) → Spells t template → (w : Variable)
      × (slice_get (variables_of 0 t) index ≡ Some w) × (w.position ≡ position) × (w.name ≡ name)

-- the variable `name` at `position` is one of those of `template`
abbrev pub HasVariable : (template : List ℕ) → (position : ℕ) → (name : List ℕ) → Type 0
HasVariable template position name = (t : Tree) × Spells t template × (index : ℕ) × (w : Variable)
    × (slice_get (variables_of 0 t) index ≡ Some w) × (w.position ≡ position) × (w.name ≡ name)

-- The variable v of the text s is missing: in a template for s, the variable at the same index is missing.
-- The value of s is an error with the name of v.
pub record IsUnset (g : Grammar) (unset : Missing) (s : List ℕ) (look : LookUp) (v : VariableAt) : Type 0 where
  pub template : List ℕ
  pub is_template : IsTemplate g unset s template
  pub position : ℕ
  pub name : List ℕ
  pub missing : value 0 is_template.tree (seen_by g.forms look) ≡ IsMissing position name
  pub at_index : HasIndex g s template position name v
  pub says : text_value g.forms unset is_template.items look ≡ Err v.name

-- the error is the reason why the text s isn't expanded; about `OutOfMemory` nothing is stated
abbrev pub IsRefusal : Grammar → Missing → List ℕ → LookUp → StyleError → Type 0
IsRefusal g unset s look (style_error.Refused first) = IsRefusalOf g s (error.Refused first)
IsRefusal g unset s look (style_error.Unset v) = IsUnset g unset s look (variable_of v)
IsRefusal g unset s look (style_error.OutOfMemory e) = Unit {0}

-- the record is that of the first refused form, or, if there is none, of the missing variable
abbrev pub IsFaultOf : Grammar → Missing → List ℕ → LookUp → StyleFault → Type 0
IsFaultOf g unset s look fault =
    ((first : FormAt) × IsRefusalOf g s (error.Refused first) × (fault ≡ fault_of_form first))
    ⊎ ((v : VariableAt) × IsUnset g unset s look v × (fault ≡ fault_of_variable v))

-- x is the output of the text s, expanded by `style` with the pairs `given`
abbrev pub GivenByStyle : StyleRecord → List Pair → List ℕ → List ℕ → Type 0
GivenByStyle style given s x = (choices : Choices) × AreOf style choices
    × IsGiven (grammar_of choices style.only.now given) choices.missing s (pair_value given) x

-- x is the output, and is UTF-8
abbrev pub TextGivenByStyle : StyleRecord → List Pair → List ℕ → List ℕ → Type 0
TextGivenByStyle style given s x = IsUtf8 x × GivenByStyle style given s x

-- the text s, expanded by `style` with the pairs `given`, is refused for the fault with the record `fault`
abbrev pub RefusedByStyle : StyleRecord → List Pair → List ℕ → StyleFault → Type 0
RefusedByStyle style given s fault = (choices : Choices) × AreOf style choices
    × IsFaultOf (grammar_of choices style.only.now given) choices.missing s (pair_value given) fault

-- the fault and its message lie in the text
abbrev pub LiesIn : List ℕ → StyleFault → Type 0
LiesIn s fault = (fault.position + fault.length ≤ length s)
    × (fault.message_position + fault.message_length ≤ length s)

-- the error isn't `OutOfMemory`, and `fault` is its record
abbrev pub IsReported : StyleError → StyleFault → Type 0
IsReported (style_error.Refused first) fault = fault ≡ fault_of_form first
IsReported (style_error.Unset v) fault = fault ≡ fault_of_variable (variable_of v)
IsReported (style_error.OutOfMemory e) fault = ⊥

-- the error's refused form or unset variable lies in the text
abbrev pub IsIn : List ℕ → StyleError → Type 0
IsIn s (style_error.Refused first) = first.position < length s
IsIn s (style_error.Unset v) = end_of (variable_of v) ≤ length s
IsIn s (style_error.OutOfMemory e) = Unit {0}

-- the effect that a call with the result `result` has on the record of a fault
pub record SetsStyleFault (IsSuch : StyleFault → Type 0) (s : List ℕ) (result : ℕ) (old new : StyleFault)
    : Type 0 where
  -- if the text is refused, the new record has the property `IsSuch`, and both of its spans lie in the text
  pub refused : result ≡ REFUSED → IsSuch new
  pub within : result ≡ REFUSED → LiesIn s new
  -- unless the text is refused, the record is unchanged
  pub fault_kept : result ≢ REFUSED → new ≡ old
