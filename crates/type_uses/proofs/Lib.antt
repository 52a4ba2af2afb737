pub mod BasicLemmas
pub mod PartLemmas
pub mod MergeLemmas
