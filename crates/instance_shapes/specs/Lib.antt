pub mod Told
pub mod Shapes
