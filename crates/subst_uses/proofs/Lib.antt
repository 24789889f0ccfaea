pub mod ComposeLemmas
pub mod ConfigLemmas
pub mod LineLemmas
pub mod NameLemmas
pub mod ReportLemmas
pub mod SettingsLemmas
pub mod WarningLemmas
