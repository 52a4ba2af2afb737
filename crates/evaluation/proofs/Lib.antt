pub mod EvaluatingLemmas
pub mod HearingLemmas
