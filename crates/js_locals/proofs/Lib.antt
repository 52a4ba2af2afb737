pub mod LaidLemmas
pub mod PlacedLemmas
pub mod NodeLemmas
pub mod RowLemmas
pub mod ScopeLemmas
pub mod GatheringLemmas
