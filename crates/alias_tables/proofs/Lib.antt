pub mod RootLemmas
pub mod IdLemmas
