pub mod SignalLemmas
pub mod HandlerLemmas
