pub mod Laid
pub mod Scopes
pub mod Gathering
pub mod Texts
