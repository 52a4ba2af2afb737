pub mod DepthLemmas
pub mod SteadyLemmas
pub mod SettlingLemmas
pub mod TellingLemmas
pub mod DoomLemmas
pub mod LeastLemmas
