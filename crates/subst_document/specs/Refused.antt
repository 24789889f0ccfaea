-- Refused strings of a text.
use Rattle.std.specs.Prelude.{◌≡◌, ◌⊎◌, ℕ, ◌+◌, List, [], ◌∷◌, Some, string_bytes}
use Rattle.std.specs.List.{AllZip}
use Rattle.subst_error.specs.ErrorFault.{error_fault}
use Rattle.subst_error.specs.Fault.{Fault}
use Rattle.subst_error.specs.Range.{range_of, IsRangeIn}
use Rattle.subst_language.specs.Language.Answer.{Answer, Gives, Refuses}
use Rattle.subst_document.specs.Edits.{text_at}
use Rattle.subst_document.specs.Paths.{PathStep, Refusal}
use Rattle.subst_document.specs.declared.edits.RefusalAt.{RefusalAt}
use Rattle.subst_document.specs.declared.edits.StringAt.{StringAt}

-- the code's refusal `it` as a `Refusal`; `steps` converts its path
abbrev pub refusal_at : {P : Type 0} → (P → List PathStep) → RefusalAt P → Refusal
refusal_at steps it = record {
  path = steps it.path;
  text = string_bytes it.text;
  fault = error_fault it.error;
}

-- the range of the fault is in the string
abbrev pub HasRangeInText : Refusal → Type 0
HasRangeInText it = IsRangeIn it.text (range_of it.fault)

-- `refusal` is the refusal of the string `it`, which has the index `index`. The refusal has the string's text
-- and span, and a path that leads to the string, as `LeadsTo` states. The string is refused for the refusal's
-- fault, and the range of the fault is in the string.
pub record IsRefusalOf {P : Type 0} (ask : List ℕ → Answer → Type 0) (LeadsTo : ℕ → P → Type 0) (index : ℕ)
    (it : StringAt) (refusal : RefusalAt P) : Type 0 where
  pub path : LeadsTo index refusal.path
  pub text : string_bytes refusal.text ≡ text_at it
  pub span : refusal.span ≡ it.span
  pub fault : Fault
  pub fault_is : error_fault refusal.error ≡ Some fault
  pub refused : ask (text_at it) (Refuses fault)
  pub range : IsRangeIn (text_at it) (range_of (error_fault refusal.error))

-- `refusals` are the refusals of those strings that are refused, in order. Every other string has an output.
-- `index` is the index of the first string, and `LeadsTo` holds of the index of a string and a path to it.
abbrev pub AreRefusedOf : {P : Type 0} → (List ℕ → Answer → Type 0) → (ℕ → P → Type 0) → ℕ → List StringAt
    → List (RefusalAt P) → Type 0
AreRefusedOf ask LeadsTo index [] refusals = refusals ≡ []
AreRefusedOf {P} ask LeadsTo index (it ∷ rest) refusals =
    (((x : List ℕ) × ask (text_at it) (Gives x)) × AreRefusedOf ask LeadsTo (index + 1) rest refusals)
    ⊎ ((refusal : RefusalAt P) × (more : List (RefusalAt P)) × (refusals ≡ refusal ∷ more)
    × IsRefusalOf ask LeadsTo index it refusal × AreRefusedOf ask LeadsTo (index + 1) rest more)

-- the refusal `it` with `path` as its path, instead of an index
abbrev pub with_path : {P : Type 0} → RefusalAt ℕ → P → RefusalAt P
with_path it path = record { path = path; text = it.text; span = it.span; error = it.error }

-- the paths lead to the strings of these refusals, in order; here the `path` of a refusal is the index of its
-- string
abbrev pub ArePathsTo : {P : Type 0} → (ℕ → P → Type 0) → List (RefusalAt ℕ) → List P → Type 0
ArePathsTo LeadsTo = AllZip (λ it path. LeadsTo it.path path)
