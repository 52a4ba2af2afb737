mod SegmentLemmas
mod TextLemmas
