-- Lemmas on the expansion's own terms.
pub mod ContextLemmas
pub mod ExpandLemmas
pub mod ExpansionLemmas
pub mod FilledLemmas
pub mod FilledTextLemmas
pub mod ListedLemmas
pub mod LoopLemmas
pub mod OutputLemmas
pub mod PackedLemmas
pub mod TemplateOfLemmas
pub mod VariablesLemmas
pub mod WriterLemmas
pub mod WritingLemmas
