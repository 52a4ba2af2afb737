mod ReachLemmas
mod RankLemmas
pub mod ProgramLemmas
