pub mod Calls
pub mod Earlier
pub mod Language
pub mod LayeredLemmas
pub mod Lemmas
pub mod Maps
pub mod Parts
