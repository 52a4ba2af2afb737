pub mod Work
pub mod Moving
