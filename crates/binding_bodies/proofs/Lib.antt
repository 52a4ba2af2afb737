pub mod FindingLemmas
pub mod PutLemmas
pub mod WholeLemmas
