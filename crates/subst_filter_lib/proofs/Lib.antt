pub mod ArgumentLemmas
pub mod DeviceLemmas
pub mod FilterRunLemmas
pub mod StatusLemmas
