pub mod AlongLemmas
pub mod DeclaredLemmas
pub mod MeaningLemmas
