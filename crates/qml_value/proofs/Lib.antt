pub mod RowLemmas
pub mod TextLemmas
pub mod NamingLemmas
pub mod BuilderLemmas
pub mod ScrubLemmas
pub mod GoneLemmas
