pub mod Acting
pub mod Leading
pub mod Given
pub mod Spots
pub mod Handing
pub mod Waiting
pub mod Running
