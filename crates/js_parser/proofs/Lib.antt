pub mod ClosesAsAll
pub mod Parses
