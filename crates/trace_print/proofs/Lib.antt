pub mod JoinLemmas
pub mod ShownLemmas
