pub mod Table
pub mod ExamplesHold
