pub mod SweepLemmas
pub mod ConvertLemmas
pub mod TakingLemmas
pub mod AnswerLemmas
pub mod StepLemmas
