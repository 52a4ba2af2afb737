pub mod FirstTokens
pub mod LiteralKinds
