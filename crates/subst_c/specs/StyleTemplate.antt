-- Templates of texts of other tools that C keeps as cells: their variables, values and faults.
use Rattle.std.specs.Prelude.{◌≡◌, ◌≢◌, ◌⊎◌, ◌==◌, ◌||◌, ◌<◌, ◌+◌, ◌-◌, ℕ, Bool, List, [], ◌∷◌, drop, length, Option, Some, None, if◌then◌else◌, IsUtf8, slice_get, slice_range}
use Rattle.std.specs.Option.{option_and_then, option_map}
use Rattle.subst_foreign.specs.Question.{is_empty, is_missing, value_of}
use Rattle.subst_foreign.specs.Reading.{IsRefusalOf, VariableAt}
use Rattle.subst_foreign.specs.Template.{IsTemplate, seen_by}
use Rattle.subst_foreign.specs.declared.forms.Forms.{Forms}
use Rattle.subst_foreign.specs.declared.forms.Forms.TheVariants as of
use Rattle.subst_foreign.specs.declared.refused.FormAt.{FormAt}
use Rattle.subst_foreign.specs.declared.refused.TextError.TheVariants as error
use Rattle.subst_language.specs.Language.LookUp.{LookUp}
use Rattle.subst_language.specs.Parts.Span.{IsSpan, span_bytes}
use Rattle.subst_language.specs.declared.part.Span.{Span}
use Rattle.subst_c.specs.Fault.{LiesIn}
use Rattle.subst_c.specs.Names.{use_record}
use Rattle.subst_c.specs.Style.{AreOf, HasIndex, HasVariable, fault_of_form, fault_of_variable, forms_number, grammar_of}
use Rattle.subst_c.specs.Values.{value_known}
use Rattle.subst_c.specs.declared.fault.FaultRecord.{FaultRecord}
use Rattle.subst_c.specs.declared.outcome.TheConstants.{DONE, NO_SUCH_STYLE, NOT_A_TEMPLATE, OUT_OF_MEMORY}
use Rattle.subst_c.specs.declared.style.Choices.{Choices}
use Rattle.subst_c.specs.declared.style.StyleFault.{StyleFault}
use Rattle.subst_c.specs.declared.style.StyleRecord.{StyleRecord}
use Rattle.subst_c.specs.declared.value.Value.{Value}
use Rattle.subst_c.specs.declared.variables.VariableRecord.{VariableRecord}

-- `template` is one for the text s by the style, and UTF-8 if s is; the pairs `only` have the given names
abbrev pub IsTemplateByStyle : StyleRecord → List ℕ → (template : List ℕ) → Type 0
IsTemplateByStyle style s template = (choices : Choices) × AreOf style choices
    × IsTemplate (grammar_of choices style.only.now style.only.now) choices.missing s template
    × (IsUtf8 s → IsUtf8 template)

-- the record is that of the first form of the text s that the style refuses
abbrev pub IsFormRefused : StyleRecord → List ℕ → StyleFault → Type 0
IsFormRefused style s fault = (choices : Choices) × AreOf style choices × (first : FormAt)
    × IsRefusalOf (grammar_of choices style.only.now style.only.now) s (error.Refused first)
    × (fault ≡ fault_of_form first)

-- whether the byte is the digit of a question
abbrev pub is_question : ℕ → Bool
is_question b = b == value_of || b == is_missing || b == is_empty

-- the length of the question before the name of a text's variable, in the name that a template looks up: 1 or
-- 0
abbrev pub question_length : Forms → List ℕ → ℕ
question_length of.Shell [] = 0
question_length of.Shell (b ∷ n) = if is_question b then 1 else 0
question_length forms n = 0

-- the name of a text's variable, from the name that a template looks up
abbrev pub plain_name : Forms → List ℕ → List ℕ
plain_name forms n = drop (question_length forms n) n

-- the value, or `None` if it is empty
abbrev pub filled : Option (List ℕ) → Option (List ℕ)
filled value = option_and_then (λ bytes. (if length bytes == 0 then None else Some bytes)) value

-- A value of a text's variable is replaced by the one that a template of these forms looks up under the name
-- n. If the value hasn't been asked for, it is unchanged.
pub record Sees (forms : Forms) (n : List ℕ) (old new : Value) : Type 0 where
  pub seen : (look : LookUp) → value_known old ≡ Some (look (plain_name forms n))
      → value_known new ≡ Some (seen_by forms look n)
  pub unasked : value_known old ≡ None → new ≡ old

-- A call is passed the number of forms. Some forms have this number, and the call has the effect `Has`; or
-- none have, the result is `NO_SUCH_STYLE`, and what the call writes to is kept.
abbrev pub ByForms : (number result : ℕ) → (Has : Forms → Type 0) → (IsKept : Type 0) → Type 0
ByForms number result Has IsKept = ((forms : Forms) × (number ≡ forms_number forms) × Has forms)
    ⊎ (((forms : Forms) → number ≢ forms_number forms) × (result ≡ NO_SUCH_STYLE) × IsKept)

-- a call for the name at a span, if any, has the effect `Has` if the span is in the source s; otherwise it
-- writes nothing
abbrev pub IsTold : List ℕ → Option Span → (result : ℕ) → (Has : Span → Type 0) → (IsKept : Type 0) → Type 0
IsTold s (Some name) result Has IsKept = ((result ≡ DONE) × IsSpan s name × Has name)
    ⊎ ((result ≡ NOT_A_TEMPLATE) × (IsSpan s name → ⊥) × IsKept)
IsTold s None result Has IsKept = (result ≡ NOT_A_TEMPLATE) × IsKept

-- the record of the use of a name in a span of a template, without the digit of a question
abbrev pub text_use_record : Forms → List ℕ → Span → VariableRecord
text_use_record forms s name =
    let full = use_record s name in
    let question = question_length forms (span_bytes name s) in
    record { kind = full.kind; position = full.position + question; length = full.length - question }

-- a call for the first use of the name at a span of the template s, if any, has this result and effect
abbrev pub IsTextUseTold : (number : ℕ) → List ℕ → Option Span → (result : ℕ) → (old new : VariableRecord)
    → Type 0
IsTextUseTold number s name result old new = ByForms number result
    (λ forms. IsTold s name result (λ span. new ≡ text_use_record forms s span) (new ≡ old)) (new ≡ old)

-- a call for the name with the number `at` of a parsed template s is done if there is one; the record has the
-- span of its plain name
abbrev pub IsTextNameTold : (number : ℕ) → List ℕ → (names : List (List ℕ)) → (at result : ℕ)
    → VariableRecord → Type 0
IsTextNameTold number s names at result told = ByForms number result (λ forms.
    (at < length names → result ≡ DONE)
    × (result ≡ DONE → option_map (plain_name forms) (slice_get names at)
    ≡ Some (slice_range s told.position (told.position + told.length)))) (Unit {0})

-- a call for the value of the variable at a span of the template s, if any, has this result and effect
abbrev pub IsValueSeen : (number : ℕ) → List ℕ → Option Span → (result : ℕ) → (old new : Value) → Type 0
IsValueSeen number s name result old new = ByForms number result
    (λ forms. IsTold s name result (λ span. Sees forms (span_bytes span s) old new) (new ≡ old)) (new ≡ old)

-- a call for the value of the variable with the number `at` is done if there is one
abbrev pub IsValueTold : (number : ℕ) → (names : List (List ℕ)) → (at result : ℕ) → (old new : Value) → Type 0
IsValueTold number names at result old new = ByForms number result (λ forms.
    (at < length names → result ≡ DONE)
    × (result ≡ DONE → (n : List ℕ) × (slice_get names at ≡ Some n) × Sees forms n old new)) (new ≡ old)

-- the bytes of a template in the span of a fault
abbrev pub fault_name : (template : List ℕ) → FaultRecord → List ℕ
fault_name template fault = slice_range template fault.position (fault.position + fault.length)

-- the fault is that of a missing variable, and lies in the template
abbrev pub IsMissingIn : (template : List ℕ) → FaultRecord → Type 0
IsMissingIn template fault = (fault.kind ≡ 5) × LiesIn template fault

-- the fault is that of a missing variable, and its span is that of the name of a variable of the template
abbrev pub IsFaultOfVariable : (template : List ℕ) → FaultRecord → Type 0
IsFaultOfVariable template fault =
    IsMissingIn template fault × HasVariable template fault.position (fault_name template fault)

-- `told` is the record of the variable of the text s that has the index of the variable of `template` that
-- `fault` reports
abbrev pub IsFaultInText : StyleRecord → List ℕ → (template : List ℕ) → FaultRecord → StyleFault → Type 0
IsFaultInText style s template fault told = (choices : Choices) × AreOf style choices × (v : VariableAt)
    × IsMissingIn template fault
    × HasIndex (grammar_of choices style.only.now style.only.now) s template fault.position
    (fault_name template fault) v
    × (told ≡ fault_of_variable v)

-- a result other than `DONE`, `NO_SUCH_STYLE` and `NOT_A_TEMPLATE` is `OUT_OF_MEMORY`
abbrev pub IsOtherFault : (result : ℕ) → Type 0
IsOtherFault result = result ≢ DONE → result ≢ NO_SUCH_STYLE → result ≢ NOT_A_TEMPLATE → result ≡ OUT_OF_MEMORY
