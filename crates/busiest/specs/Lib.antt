pub mod Busiest
pub mod InWords
pub mod Examples
pub mod Promise
