mod BoundaryLemmas
mod EnvsubstLemmas
mod ListedLemmas
mod ListingLemmas
mod NamesLemmas
mod OneListing
mod OneReading
mod OneToken
mod PlainLemmas
mod QuestionLemmas
pub mod ReadingLemmas
mod SearchLemmas
pub mod TemplateLemmas
pub mod TokenLemmas
