pub mod PlaceLemmas
pub mod KeptLemmas
pub mod ScrubLemmas
pub mod DropLemmas
pub mod AddLemmas
