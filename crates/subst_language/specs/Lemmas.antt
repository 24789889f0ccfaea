-- Definitions for lemmas of this crate and of crates that depend on it. No contract of a public function
-- cites these definitions.
pub mod Closing
pub mod PlainEnds
