pub mod OfDocument
