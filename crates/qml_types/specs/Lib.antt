pub mod Table
pub mod Kinds
pub mod Members
pub mod Conversion
pub mod First
pub mod Tests
