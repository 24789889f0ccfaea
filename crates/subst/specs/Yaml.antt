-- Definitions that contracts of the module `yaml` cite, and the type of its errors.
pub use Rattle.subst_yaml.specs.declared.error.Error.{Error}
pub use Rattle.subst_yaml.specs.declared.error.Error.TheVariants as error
pub use Rattle.subst_yaml.specs.Errors
pub use Rattle.subst_yaml.specs.Filled
pub use Rattle.subst_yaml.specs.InPlace
pub use Rattle.subst_yaml.specs.Laws
pub use Rattle.subst_yaml.specs.Listed
pub use Rattle.subst_yaml.specs.Outcome
pub use Rattle.subst_yaml.specs.Paths
pub use Rattle.subst_yaml.specs.Places
pub use Rattle.subst_yaml.specs.Report
