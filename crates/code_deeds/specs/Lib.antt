pub mod Deeds
pub mod Forms
pub mod Around
pub mod Own
pub mod Tasks
pub mod Scopes
pub mod Left
pub mod Whole
