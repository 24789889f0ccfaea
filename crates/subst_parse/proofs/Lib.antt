-- Lemmas on the parser's own terms.
pub mod ByteRunLemmas
pub mod CutLemmas
pub mod DepthLemmas
pub mod InnerLemmas
pub mod LaneLemmas
pub mod LiftLemmas
pub mod ParsedLemmas
pub mod ParserLemmas
pub mod PartOfLemmas
pub mod PlaceholderLemmas
pub mod ScanLemmas
pub mod StackHoldsLemmas
pub mod TreeAtLemmas
