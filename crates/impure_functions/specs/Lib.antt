pub mod Functions
pub mod Least
