pub mod AnyLemmas
pub mod UnheardLemmas
pub mod ReactionLemmas
