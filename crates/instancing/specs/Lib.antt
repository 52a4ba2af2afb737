pub mod Stack
pub mod Frames
pub mod Numbered
pub mod Ascending
