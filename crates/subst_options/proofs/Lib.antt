pub mod ArgumentLemmas
pub mod CommandLemmas
pub mod ParsedLemmas
pub mod WorkedExamples
