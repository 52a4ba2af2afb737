pub mod Open
pub mod DocumentMachine
pub mod DocumentAnswer
pub mod Ends
pub mod DocumentTape
pub mod DocumentMoves
pub mod KeptDocument
