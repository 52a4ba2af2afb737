pub mod OwnerLemmas
pub mod AddLemmas
pub mod MakesLemmas
