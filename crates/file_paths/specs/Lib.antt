pub mod Segments
pub mod Ascii
