pub mod WorkLemmas
pub mod StepFalls
pub mod StatementFalls
pub mod MovingLemmas
