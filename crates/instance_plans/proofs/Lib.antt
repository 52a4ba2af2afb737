pub mod MadeForms
pub mod MadeExamples
