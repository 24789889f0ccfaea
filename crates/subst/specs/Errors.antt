-- The types of errors, for specs and proofs of callers. The cases of each type have a module of their own,
-- such as `error` for `Error`.
pub use Rattle.subst_error.specs.declared.CharOrByte.{CharOrByte}
pub use Rattle.subst_error.specs.declared.Error.{Error}
pub use Rattle.subst_error.specs.declared.ExpandError.{ExpandError}
pub use Rattle.subst_error.specs.declared.ParseError.{ParseError}
pub use Rattle.subst_error.specs.declared.borrowed.ExpandIntoError.{ExpandIntoError}
pub use Rattle.subst_error.specs.declared.borrowed.SubstituteIntoError.{SubstituteIntoError}
pub use Rattle.subst_error.specs.declared.CharOrByte.TheVariants as character
pub use Rattle.subst_error.specs.declared.Error.TheVariants as error
pub use Rattle.subst_error.specs.declared.ExpandError.TheVariants as expanding
pub use Rattle.subst_error.specs.declared.ParseError.TheVariants as parsing
pub use Rattle.subst_error.specs.declared.borrowed.ExpandIntoError.TheVariants as expanding_into
pub use Rattle.subst_error.specs.declared.borrowed.SubstituteIntoError.TheVariants as substituting_into
