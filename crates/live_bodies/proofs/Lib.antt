pub mod SightLemmas
pub mod BodyLemmas
