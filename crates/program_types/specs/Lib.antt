pub mod Numbers
pub mod UsesNamed
