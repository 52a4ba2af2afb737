pub mod Tables
pub mod Settles
pub mod Steps
