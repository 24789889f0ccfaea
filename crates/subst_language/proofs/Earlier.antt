-- Lemmas on the earlier language, and on its relation to the present one.
pub mod ExtendedLemmas
pub mod ExtensionLemmas
pub mod FaultLemmas
pub mod QuestionMarkLemmas
