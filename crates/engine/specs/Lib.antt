pub mod Fits
pub mod Steady
pub mod Runs
pub mod Document
