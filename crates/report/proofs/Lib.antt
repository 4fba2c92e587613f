pub mod Decimal
pub mod LineLengths
pub mod LineWritten
pub mod LinePut
pub mod Placed
pub mod ExamplesHold
