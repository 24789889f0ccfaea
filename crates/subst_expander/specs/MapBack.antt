-- Faults of templates, mapped back to the texts from which the templates were converted.
use Rattle.std.specs.Prelude.{◌≡◌, ◌==◌, ◌-◌, ℕ, List, [], ◌∷◌, Option, Some, None, if◌then◌else◌, length, map, string_bytes}
use Rattle.std.specs.HashMap.{HashMap, get_by}
use Rattle.std.specs.List.{zip, AllZip}
use Rattle.std.specs.Option.{option_map, option_map_or, option_or}
use Rattle.subst.specs.Errors.error
use Rattle.subst.specs.Grammar.{Grammar}
use Rattle.subst.specs.Language.Sentence.{Spells}
use Rattle.subst.specs.Language.Tree.{Tree}
use Rattle.subst.specs.Language.Variables.{variables_of}
use Rattle.subst.specs.Reading.{variable_of, Listing, VariableAt}
use Rattle.subst_expander.specs.Fill.{looked_up_name}
use Rattle.subst_expander.specs.Ranges.{span_at}
use Rattle.subst_expander.specs.declared.fault.Cause.{Cause}
use Rattle.subst_expander.specs.declared.fault.Cause.TheVariants.{Refused, Unreadable, Unset}
use Rattle.subst_expander.specs.declared.fault.Fault.{Fault}
use Rattle.subst_foreign.specs.declared.forms.Forms.{Forms}
use Rattle.subst_foreign.specs.declared.variables.TextVariable.{TextVariable as FoundVariable}
use Rattle.subst_language.specs.declared.variable.Variable.{Variable as TemplateVariable}

-- the variable of the last pair that has the position `at`, if there is one
abbrev pub last_at : List (ℕ × VariableAt) → ℕ → Option VariableAt
last_at [] at = None
last_at (pair ∷ pairs) at = option_or (last_at pairs at) (if pair.0 == at then Some pair.1 else None)

-- The text's variable with the same index as the template's variable at the position `at`. `positions` are
-- the positions of the template's variables, and `variables` are the text's variables. No two variables of a
-- template have the same position.
abbrev pub counterpart : List ℕ → List VariableAt → ℕ → Option VariableAt
counterpart positions variables at = last_at (zip positions variables) at

-- the positions of the variables in the template with the tree `t`
abbrev pub positions_of : Tree → List ℕ
positions_of t = map (λ v. v.position) (variables_of 0 t)

-- the second cause is the first one, mapped back from a template to the text. `NoSuchVariable` becomes
-- `Unset`, with the variable's name in the text. Any other cause is unchanged
abbrev pub IsMappedCause : Forms → Cause → Cause → Type 0
IsMappedCause forms (Refused (error.NoSuchVariable e)) (Unset mapped) =
    string_bytes mapped.name ≡ looked_up_name (Some forms) (string_bytes e.name)
IsMappedCause forms (Refused (error.NoSuchVariable e)) _ = ⊥
IsMappedCause forms x it = it ≡ x

-- the length of a fault's range in the text: that of the name in the cause, or else `len`, the length in the
-- template
abbrev pub len_in_text : Cause → (len : ℕ) → ℕ
len_in_text (Unset unset) len = length (string_bytes unset.name)
len_in_text (Unreadable name) len = length (string_bytes name)
len_in_text _ len = len

-- `it` is the fault `x` of a template, mapped back to the variable `found` of the text, or unmoved without a
-- variable
abbrev pub IsMappedAt : Forms → (found : Option VariableAt) → (x it : Fault) → Type 0
IsMappedAt forms found x it = IsMappedCause forms x.cause it.cause × (it.path ≡ x.path)
    × (it.range ≡ span_at (option_map_or (λ v. v.position) found x.range.start)
    (len_in_text it.cause (x.range.end - x.range.start)))

-- `it` is the fault `x` of `template`, mapped back to the text `s`. If the template has a variable at the
-- position of `x`, `it` is at that variable's counterpart in `s`.
abbrev pub IsMappedIn : Grammar → (s template : List ℕ) → Fault → Fault → Type 0
IsMappedIn g s template x it = (t : Tree) → Spells t template → (variables : List VariableAt)
    × Listing g 0 0 s variables × IsMappedAt g.forms (counterpart (positions_of t) variables x.range.start) x it

-- the variable that `counterparts` has for the position `at`, if any
abbrev pub counterpart_at : {S : Type 0} → HashMap ℕ FoundVariable S → ℕ → Option VariableAt
counterpart_at counterparts at = option_map variable_of (get_by (λ position. at == position) counterparts)

-- `counterparts` has the variables of the text `s`, by the positions of the same variables in `template`
abbrev pub AreCounterparts : {S : Type 0} → Grammar → (s template : List ℕ) → HashMap ℕ FoundVariable S → Type 0
AreCounterparts g s template counterparts = (t : Tree) → Spells t template → (variables : List VariableAt)
    × Listing g 0 0 s variables
    × ((at : ℕ) → counterpart_at counterparts at ≡ counterpart (positions_of t) variables at)

-- `counterparts` maps, for each of `pairs`, the position of the template's variable to the text's variable;
-- of pairs with the same position, the last one wins
abbrev pub ArePaired : {S : Type 0} → List (TemplateVariable × FoundVariable) → HashMap ℕ FoundVariable S → Type 0
ArePaired pairs counterparts = (at : ℕ) → counterpart_at counterparts at
    ≡ last_at (map (λ pair. (pair.0.position, variable_of pair.1)) pairs) at

-- `mapped` are the `faults` of a template, mapped back to the text that the template was converted from.
-- `counterparts` has each variable of that text, by the position of the same variable in the template.
abbrev pub AreMapped : {S : Type 0} → Forms → HashMap ℕ FoundVariable S → List Fault → List Fault → Type 0
AreMapped forms counterparts faults mapped =
    AllZip (λ x it. IsMappedAt forms (counterpart_at counterparts x.range.start) x it) faults mapped

-- `it` is the fault `x` of a template, mapped back to the text's variable `found`, or unmoved if there is no
-- such variable
abbrev pub IsMappedBy : Forms → Option FoundVariable → Fault → Fault → Type 0
IsMappedBy forms found x it = IsMappedAt forms (option_map variable_of found) x it
