-- Templates for texts of other tools, for calls from C.
use Rattle.std.specs.Prelude.{◌≡◌, ◌≢◌, ◌⊎◌, Bool, true, false, ℕ, zero, suc, List, []}
use Rattle.subst_foreign.specs.Foreign.{HasValue}
use Rattle.subst_foreign.specs.Grammar.{grammar}
use Rattle.subst_foreign.specs.Reading.{IsRefusalOf}
use Rattle.subst_foreign.specs.RefusedDisplay.{display_of_form}
use Rattle.subst_foreign.specs.declared.forms.Forms.TheVariants.{Common}
use Rattle.subst_foreign.specs.declared.forms.Missing.{Missing}
use Rattle.subst_foreign.specs.declared.forms.Missing.TheVariants as missing
use Rattle.subst_foreign.specs.declared.refused.ShellForm.{ShellForm}
use Rattle.subst_foreign.specs.declared.refused.ShellForm.TheVariants as form
use Rattle.subst_foreign.specs.declared.refused.TextError.TheVariants as error
use Rattle.subst_language.specs.Language.LookUp.{LookUp}

-- how an unset variable expands: to a fault if `optional` is 0, and otherwise to nothing
abbrev pub missing_of : (optional : ℕ) → Missing
missing_of zero = missing.Fault
missing_of (suc n) = missing.Nothing

-- the name is written without an operator, and has a value under the look-up
abbrev pub HasPlain : LookUp → (operated : Bool) → List ℕ → Type 0
HasPlain look true name = ⊥
HasPlain look false name = HasValue look name

-- the number of a form of a shell
abbrev pub form_number : ShellForm → ℕ
form_number form.Dollar = 1
form_number form.NoName = 2
form_number form.Minus = 3
form_number form.Question = 4
form_number form.Equals = 5
form_number form.Plus = 6
form_number form.ColonEquals = 7
form_number form.ColonPlus = 8
form_number form.Colon = 9
form_number form.Hash = 10
form_number form.Percent = 11
form_number form.Slash = 12
form_number form.Other = 13
form_number form.Message = 14
form_number form.Brace = 15
form_number form.Unclosed = 16

-- the shell-style text s is refused for the form that begins at `position` and has the number `number`
abbrev pub IsRefusedFor : (s : List ℕ) → (number position : ℕ) → Type 0
IsRefusedFor s number position = (form : ShellForm) × (number ≡ form_number form)
    × IsRefusalOf (grammar Common true (λ operated name. Unit {0})) s
    (error.Refused (record { position = position; form = form }))

-- `text` is the text of the form with this number, or empty if no form has the number
abbrev pub IsFormText : (number : ℕ) → List ℕ → Type 0
IsFormText number text =
    ((form : ShellForm) × (number ≡ form_number form) × (text ≡ display_of_form form))
    ⊎ (((form : ShellForm) → number ≢ form_number form) × (text ≡ []))
