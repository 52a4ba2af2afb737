pub mod Children
pub mod Rows
pub mod Paths
