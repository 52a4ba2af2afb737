pub mod Giving
pub mod Settles
pub mod Writing
pub mod Telling
