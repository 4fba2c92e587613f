pub mod Bytes
pub mod Again
pub mod Loads
