pub mod ByObject
