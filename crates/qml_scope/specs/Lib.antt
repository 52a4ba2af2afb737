pub mod Names
pub mod Shapes
pub mod Seats
pub mod CellNames
