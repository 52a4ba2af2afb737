pub mod StepLemmas
pub mod WriteLemmas
pub mod TellLemmas
