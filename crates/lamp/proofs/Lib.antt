pub mod ExamplesHold
pub mod LampAnswers
