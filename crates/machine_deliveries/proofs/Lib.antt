pub mod FitLemmas
pub mod BeginLemmas
pub mod CycleLemmas
