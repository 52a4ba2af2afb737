pub mod ShownLemmas
pub mod EventLemmas
