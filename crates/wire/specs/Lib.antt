pub mod Words
pub mod Memory
pub mod Outcome
pub mod Tests
pub mod EveryByte
