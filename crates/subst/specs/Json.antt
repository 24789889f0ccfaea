-- Definitions that contracts of the module `json` cite, and the type of its errors.
pub use Rattle.subst_json.specs.declared.error.Error.{Error}
pub use Rattle.subst_json.specs.declared.error.Error.TheVariants as error
pub use Rattle.subst_json.specs.Errors
pub use Rattle.subst_json.specs.Filled
pub use Rattle.subst_json.specs.InPlace
pub use Rattle.subst_json.specs.Laws
pub use Rattle.subst_json.specs.Listed
pub use Rattle.subst_json.specs.Mapped
pub use Rattle.subst_json.specs.Outcome
pub use Rattle.subst_json.specs.Paths
pub use Rattle.subst_json.specs.Pieces
pub use Rattle.subst_json.specs.Places
pub use Rattle.subst_json.specs.Pointer
pub use Rattle.subst_json.specs.Report
pub use Rattle.subst_json.specs.Stop
pub use Rattle.subst_document.specs.Paths as Walk
pub use Rattle.subst_document.specs.Plain
pub use Rattle.subst_document.specs.Refused
pub use Rattle.subst_document.specs.Texts
