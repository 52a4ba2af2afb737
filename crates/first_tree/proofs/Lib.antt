pub mod SweepLemmas
pub mod TableLemmas
pub mod ValueLemmas
