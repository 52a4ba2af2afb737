pub mod Layers
pub mod Handled
pub mod Meant
