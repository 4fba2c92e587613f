pub mod Warnings
pub mod Examples
