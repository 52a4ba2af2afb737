pub mod Awaiting
pub mod Standing
pub mod Telling
pub mod Meant
pub mod Moves
pub mod Statements
pub mod Spots
pub mod Stepping
