-- Definitions for callers: maps as look-ups, and results as answers.
pub use Rattle.subst_language.specs.Calls.Clauses
pub use Rattle.subst_language.specs.Calls.Outcome
pub use Rattle.subst_language.specs.Calls.VariableMap
pub use Rattle.subst_language.specs.Calls.Variables
pub use Rattle.subst_language.specs.Maps
