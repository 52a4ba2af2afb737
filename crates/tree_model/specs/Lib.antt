pub mod Systems
pub mod Converting
pub mod Rules
pub mod Settling
pub mod Telling
pub mod Doomed
pub mod Removing
