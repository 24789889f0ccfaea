pub mod CallingLemmas
pub mod Earlier
pub mod Language
pub mod MapLemmas
pub mod PartsLemmas
pub mod TestLemmas
pub mod TreeOf
pub mod WorkedExamples
