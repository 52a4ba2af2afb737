pub mod FirstLemmas
pub mod NameLemmas
pub mod TargetLemmas
mod SeekingLemmas
pub mod ToldLemmas
pub mod OwnerLemmas
