mod PartLemmas
mod NameLemmas
mod BodyLemmas
