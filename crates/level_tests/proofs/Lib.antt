mod StepLemmas
mod BracketLemmas
