pub mod InParts
