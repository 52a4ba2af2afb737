pub mod HasLemmas
pub mod SearchLemmas
pub mod LeastLemmas
