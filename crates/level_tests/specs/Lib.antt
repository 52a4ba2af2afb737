pub mod Example
pub mod Brackets
