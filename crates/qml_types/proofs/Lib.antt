pub mod TableLemmas
pub mod ConversionLemmas
pub mod FindingLemmas
