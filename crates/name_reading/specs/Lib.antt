pub mod NamesRead
