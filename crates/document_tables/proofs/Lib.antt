pub mod GroupLemmas
pub mod BesideLemmas
pub mod MakingLemmas
mod KindLemmas
mod ObjectLemmas
mod BaseLemmas
pub mod TableLemmas
pub mod ProgramLemmas
pub mod ThereLemmas
