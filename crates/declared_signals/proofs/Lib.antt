pub mod MemberLemmas
pub mod LoopLemmas
pub mod ProgramLemmas
