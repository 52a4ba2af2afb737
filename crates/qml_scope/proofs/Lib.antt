mod NameLemmas
mod OutwardLemmas
mod ShapeLemmas
mod SeatLemmas
mod FindingLemmas
mod CellNameLemmas
