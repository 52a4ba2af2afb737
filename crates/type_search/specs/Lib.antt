pub mod Causes
pub mod Search
