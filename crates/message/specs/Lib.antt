pub mod Message
pub mod Examples
