mod TableLemmas
pub mod EachLemmas
