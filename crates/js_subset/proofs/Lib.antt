pub mod FoundLemmas
mod FirstLemmas
mod WholeLemmas
