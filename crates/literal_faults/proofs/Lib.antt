pub mod RowLemmas
pub mod LiteralLemmas
