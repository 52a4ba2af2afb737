mod CountLemmas
mod EntryLemmas
pub mod ObjectLemmas
