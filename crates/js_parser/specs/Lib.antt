pub mod Ends
pub mod Parse
