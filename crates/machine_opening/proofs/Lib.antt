pub mod UnitsLemmas
pub mod OpeningLemmas
