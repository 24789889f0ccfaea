-- Types that concern texts of other tools, for specs and proofs of callers. The cases of `Forms` are in
-- `forms`.
pub use Rattle.subst_foreign.specs.declared.forms.Forms.{Forms}
pub use Rattle.subst_foreign.specs.declared.forms.Missing.{Missing}
pub use Rattle.subst_foreign.specs.declared.forms.Operator.{Operator}
pub use Rattle.subst_foreign.specs.declared.refused.FormAt.{FormAt}
pub use Rattle.subst_foreign.specs.declared.refused.ShellForm.{ShellForm}
pub use Rattle.subst_foreign.specs.declared.refused.TextError.{TextError}
pub use Rattle.subst_foreign.specs.declared.variables.TextVariable.{TextVariable}
pub use Rattle.subst_foreign.specs.declared.forms.Forms.TheVariants as forms
pub use Rattle.subst_foreign.specs.declared.forms.Missing.TheVariants as missing
pub use Rattle.subst_foreign.specs.declared.forms.Operator.TheVariants as operator
pub use Rattle.subst_foreign.specs.declared.refused.ShellForm.TheVariants as form
pub use Rattle.subst_foreign.specs.declared.refused.TextError.TheVariants as refusing
