pub mod CutLemmas
pub mod LineLemmas
pub mod QuotedLemmas
pub mod StyledLemmas
pub mod WritingLemmas
