pub mod UsesOfUnits
pub mod Passed
