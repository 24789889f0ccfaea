-- The expansion's own terms: packed parts, and their output. No contract of a public function of `subst`
-- cites them.
pub mod Context
pub mod CountedParts
pub mod Expansion
pub mod Filled
pub mod Output
pub mod Packed
pub mod PartLists
pub mod SliceOutput
pub mod Writer
pub mod Writing
