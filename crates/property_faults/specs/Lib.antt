pub mod Given
pub mod Places
pub mod Unknown
pub mod ReadOnly
