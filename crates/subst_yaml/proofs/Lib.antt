pub mod DocumentLemmas
pub mod FilledLemmas
pub mod ListedLemmas
pub mod MappedLemmas
pub mod PassLemmas
pub mod PlaceLemmas
pub mod ShapeLemmas
pub mod StringLemmas
