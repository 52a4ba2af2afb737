pub mod EachLemmas
pub mod TellLemmas
