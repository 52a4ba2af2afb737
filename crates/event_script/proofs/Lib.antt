pub mod AddingLemmas
pub mod BodyLemmas
pub mod LineLemmas
pub mod NumberLemmas
pub mod PathLemmas
pub mod VerbLemmas
pub mod WordLemmas
