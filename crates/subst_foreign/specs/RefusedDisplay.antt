-- The error texts of refused forms.
use Rattle.std.specs.Prelude.{ℕ, List, codes}
use Rattle.subst_foreign.specs.declared.refused.TextError.{TextError}
use Rattle.subst_foreign.specs.declared.refused.TextError.TheVariants as error
use Rattle.subst_foreign.specs.declared.refused.ShellForm.{ShellForm}
use Rattle.subst_foreign.specs.declared.refused.ShellForm.TheVariants as form

-- the error text of a form
abbrev pub display_of_form : ShellForm → List ℕ
display_of_form form.Dollar = codes "a dollar that begins no variable can't be given here"
display_of_form form.NoName = codes "`${` without a name can't be given here"
display_of_form form.Minus = codes "`-` of a shell's variable can't be given here"
display_of_form form.Question = codes "`?` of a shell's variable can't be given here"
display_of_form form.Equals = codes "`=` of a shell's variable can't be given here"
display_of_form form.Plus = codes "`+` of a shell's variable can't be given here"
display_of_form form.ColonEquals = codes "`:=` of a shell's variable can't be given here"
display_of_form form.ColonPlus = codes "`:+` of a shell's variable can't be given here"
display_of_form form.Colon = codes "`:` of a shell's variable can't be given here"
display_of_form form.Hash = codes "`#` of a shell's variable can't be given here"
display_of_form form.Percent = codes "`%` of a shell's variable can't be given here"
display_of_form form.Slash = codes "`/` of a shell's variable can't be given here"
display_of_form form.Other = codes "what is after the name of a shell's variable can't be given here"
display_of_form form.Message = codes "a message with an opening brace can't be given here"
display_of_form form.Brace = codes "an opening brace in a default can't be given here"
display_of_form form.Unclosed = codes "a variable without its closing brace can't be given here"

-- the text of an error
abbrev pub display_of_error : TextError → List ℕ
display_of_error (error.Refused at) = display_of_form at.form
display_of_error (error.OutOfMemory e) = codes "out of memory"
