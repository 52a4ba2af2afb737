pub mod Fitting
pub mod Doing
