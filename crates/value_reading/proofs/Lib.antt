pub mod TokenLemmas
pub mod LiteralLemmas
