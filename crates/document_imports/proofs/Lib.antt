mod ImportLemmas
