pub mod RowLemmas
pub mod ValueLemmas
mod OwnerLemmas
