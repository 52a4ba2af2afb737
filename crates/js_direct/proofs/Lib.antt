pub mod DirectLemmas
