pub mod Held
pub mod Calls
pub mod Reading
pub mod Demand
pub mod InWords
pub mod Stops
pub mod Empty
