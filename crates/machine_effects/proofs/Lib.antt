pub mod AccessLemmas
pub mod LoggingLemmas
pub mod UnitsLemmas
pub mod WritingLemmas
pub mod ActingLemmas
