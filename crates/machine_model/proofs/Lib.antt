pub mod RunForms
pub mod SettlingLemmas
pub mod KeepLemmas
pub mod FreshLemmas
pub mod TraceLemmas
pub mod BodyLemmas
mod RunExamples
