pub mod Reached
pub mod Going
pub mod Shape
pub mod Answer
