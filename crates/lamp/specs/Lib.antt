pub mod Lamp
pub mod Examples
pub mod Promise
