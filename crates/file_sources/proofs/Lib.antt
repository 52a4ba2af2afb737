mod ContentLemmas
mod OneSource
