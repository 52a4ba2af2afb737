pub mod Counts
pub mod Bindings
