pub mod LayerLemmas
pub mod FoundLemmas
pub mod HeardLemmas
pub mod ProgramLemmas
