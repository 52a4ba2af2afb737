pub mod Roots
pub mod Ids
