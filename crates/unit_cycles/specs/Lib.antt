pub mod Uses
pub mod Waiting
