pub mod Entries
pub mod Walk
pub mod WholePaths
pub mod WrittenObjects
