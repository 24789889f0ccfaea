pub mod ChangeLemmas
pub mod EditLemmas
mod FillerLemmas
pub mod ListedLemmas
mod PlaceholderLemmas
pub mod RefusalLemmas
mod SpliceLemmas
pub mod StaysLemmas
pub mod RefusedLemmas
