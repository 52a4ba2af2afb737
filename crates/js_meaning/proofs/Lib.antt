pub mod NumberLemmas
pub mod SameLemmas
mod Examples
