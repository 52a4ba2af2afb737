pub mod Growing
pub mod Parts
pub mod Store
pub mod Utf
