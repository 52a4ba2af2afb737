pub mod RowLemmas
mod PlaceLemmas
pub mod UnknownLemmas
pub mod ReadOnlyLemmas
