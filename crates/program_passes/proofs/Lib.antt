mod LoopLemmas
mod UnitLemmas
mod CycleLemmas
mod PassLemmas
