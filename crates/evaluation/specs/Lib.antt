pub mod Ask
pub mod Evaluating
pub mod Hearing
