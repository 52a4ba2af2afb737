pub mod Lying
pub mod Stores
pub mod Spares
