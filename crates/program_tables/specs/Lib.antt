pub mod Putting
pub mod BuiltIn
pub mod Walk
pub mod Building
pub mod Stands
pub mod RowsSay
pub mod Types
pub mod Defaults
