pub mod Sources
pub mod Contents
