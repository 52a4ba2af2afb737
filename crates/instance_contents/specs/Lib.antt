pub mod Filling
pub mod Tables
pub mod Sources
pub mod Making
pub mod Objects
