-- The parser's own terms, for its state and for the bytes that it reads. No contract of a public function of
-- `subst` cites them.
pub mod ByteRun
pub mod Cost
pub mod Halt
pub mod Inner
pub mod Lanes
pub mod Parsing
pub mod Placeholder
