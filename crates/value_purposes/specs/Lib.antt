pub mod Given
pub mod Purposes
pub mod Bare
pub mod Tables
