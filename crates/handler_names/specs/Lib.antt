pub mod Handlers
pub mod Told
