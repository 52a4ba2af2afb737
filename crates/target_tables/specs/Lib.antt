pub mod Names
pub mod Firsts
pub mod Seen
