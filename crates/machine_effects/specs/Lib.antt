pub mod Access
pub mod Logging
pub mod Acting
