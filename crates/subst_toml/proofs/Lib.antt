pub mod ChangedLemmas
pub mod ListedLemmas
pub mod MappedLemmas
pub mod OneOutcomeLemmas
pub mod ReadingLemmas
pub mod TomlTreeLemmas
