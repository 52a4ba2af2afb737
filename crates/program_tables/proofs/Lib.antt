pub mod PutLemmas
pub mod WalkLemmas
pub mod RowLemmas
pub mod NameLemmas
pub mod MeaningLemmas
pub mod GroupLemmas
mod DeclaredLemmas
pub mod TreeLemmas
pub mod TypeLemmas
pub mod DefaultLemmas
