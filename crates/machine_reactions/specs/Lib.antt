pub mod Unheard
pub mod Keeping
