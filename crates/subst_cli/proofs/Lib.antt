pub mod ExpandedLemmas
pub mod LetterLemmas
pub mod ReadLemmas
pub mod RunLemmas
pub mod WholeRunLemmas
pub mod WrittenLemmas
