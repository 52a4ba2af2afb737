pub mod OrderLemmas
pub mod FirstLemmas
pub mod ExampleForms
mod CauseExamples
mod RuleExamples
mod StageExamples
