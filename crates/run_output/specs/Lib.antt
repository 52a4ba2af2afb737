pub mod Reading
pub mod Units
pub mod Output
pub mod Running
