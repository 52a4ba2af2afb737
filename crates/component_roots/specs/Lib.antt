pub mod Decided
pub mod Deciding
