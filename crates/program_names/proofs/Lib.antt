pub mod ExampleFiles
mod ReadingLemmas
