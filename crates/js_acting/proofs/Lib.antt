pub mod ActingLemmas
pub mod TargetLemmas
pub mod HandingLemmas
pub mod GivenLemmas
pub mod BegunLemmas
