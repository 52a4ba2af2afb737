pub mod Numbers
pub mod Contents
pub mod NamesMade
pub mod Cells
pub mod Changes
pub mod Plans
pub mod Treed
pub mod Shaped
