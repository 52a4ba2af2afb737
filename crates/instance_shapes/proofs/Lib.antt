pub mod CountLemmas
pub mod DocumentLemmas
pub mod SeenLemmas
pub mod ShapeLemmas
