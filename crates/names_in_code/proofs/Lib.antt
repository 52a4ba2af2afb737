pub mod OutwardsLemmas
pub mod MeantLemmas
