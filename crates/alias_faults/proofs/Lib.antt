pub mod FaultLemmas
pub mod SeekLemmas
