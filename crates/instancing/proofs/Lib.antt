pub mod StackLemmas
pub mod GrowthLemmas
pub mod NumberLemmas
pub mod AscendingLemmas
