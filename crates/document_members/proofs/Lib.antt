pub mod PartLemmas
pub mod PathLemmas
pub mod ReadLemmas
