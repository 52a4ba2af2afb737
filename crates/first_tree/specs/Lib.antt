pub mod Settles
pub mod Sweeps
pub mod Values
