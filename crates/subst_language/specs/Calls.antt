-- Terms of public contracts beyond those of the language: maps as look-ups, results as answers, variables in
-- the code, and clauses that calls share.
pub mod Clauses
pub mod Outcome
pub mod VariableMap
pub mod Variables
