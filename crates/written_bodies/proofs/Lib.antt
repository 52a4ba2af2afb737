pub mod ParameterLemmas
pub mod MemberLemmas
pub mod ProgramLemmas
