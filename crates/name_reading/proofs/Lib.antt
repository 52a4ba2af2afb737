pub mod ReadLemmas
mod OfferLemmas
