pub mod Finding
pub mod Making
pub mod Groups
pub mod Tables
