pub mod Adding
pub mod Lines
pub mod Numbers
pub mod Script
pub mod Verbs
