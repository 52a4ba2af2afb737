mod PlaceLemmas
mod ItemLemmas
mod CountLemmas
