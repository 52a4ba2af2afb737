mod NumberLemmas
pub mod SearchLemmas
pub mod ProgramLemmas
