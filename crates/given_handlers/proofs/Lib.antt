pub mod GivenLemmas
pub mod ProgramLemmas
