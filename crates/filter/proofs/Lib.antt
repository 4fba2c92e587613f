-- The theorems, and laws for callers
pub mod Between
pub mod StaysInRange
pub mod HundredThenZeros
pub mod NineThenEights
pub mod NextLaws
pub mod OwnedFilter
pub mod FloatBits
pub mod ExamplesHold
-- What they are proved with
mod BlendOutcome
mod RangeUnits
mod Step
mod HeldValues
mod Operations
mod Rounding
mod SteadyReading
