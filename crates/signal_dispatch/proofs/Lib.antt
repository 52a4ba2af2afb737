pub mod CondemnedLemmas
pub mod HeldLemmas
pub mod AimedLemmas
pub mod SignalLemmas
pub mod ListLemmas
