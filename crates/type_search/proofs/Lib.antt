pub mod SearchLemmas
mod OfferLemmas
pub mod KeepsLemmas
