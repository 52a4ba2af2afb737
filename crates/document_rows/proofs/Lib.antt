pub mod WalkLemmas
pub mod MatchLemmas
pub mod StepLemmas
pub mod PathLemmas
pub mod OwnedLemmas
pub mod RoleLemmas
