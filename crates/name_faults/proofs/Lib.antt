pub mod RowLemmas
pub mod SayLemmas
mod TakenLemmas
pub mod PassLemmas
