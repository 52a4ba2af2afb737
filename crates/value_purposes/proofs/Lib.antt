pub mod PurposeLemmas
