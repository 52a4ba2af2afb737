pub mod StatementLemmas
pub mod NumberLemmas
pub mod BodyLemmas
pub mod ProgramLemmas
