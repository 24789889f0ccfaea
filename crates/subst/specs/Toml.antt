-- Definitions that contracts of the module `toml` cite, and the type of its errors.
pub use Rattle.subst_toml.specs.declared.error.Error.{Error}
pub use Rattle.subst_toml.specs.declared.error.Error.TheVariants as error
pub use Rattle.subst_toml.specs.Errors
pub use Rattle.subst_toml.specs.DottedKey
pub use Rattle.subst_toml.specs.Filled
pub use Rattle.subst_toml.specs.InPlace
pub use Rattle.subst_toml.specs.Laws
pub use Rattle.subst_toml.specs.Listed
pub use Rattle.subst_toml.specs.Mapped
pub use Rattle.subst_toml.specs.Outcome
pub use Rattle.subst_toml.specs.Paths
pub use Rattle.subst_toml.specs.Pieces
pub use Rattle.subst_toml.specs.Places
pub use Rattle.subst_toml.specs.Report
pub use Rattle.subst_document.specs.Paths as Walk
pub use Rattle.subst_document.specs.Plain
pub use Rattle.subst_document.specs.Refused
pub use Rattle.subst_document.specs.Texts
