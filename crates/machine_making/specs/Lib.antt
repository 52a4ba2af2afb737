pub mod Adding
pub mod Makes
