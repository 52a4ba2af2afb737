pub mod WalkLemmas
pub mod LayerLemmas
