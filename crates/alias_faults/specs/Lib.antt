pub mod BadAliases
pub mod Targets
