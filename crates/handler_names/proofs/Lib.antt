pub mod RowLemmas
pub mod WalkLemmas
pub mod LayerLemmas
