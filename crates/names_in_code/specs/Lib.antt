pub mod Outwards
pub mod Meant
