pub mod Checks
pub mod OrderOfChecks
pub mod Calls
pub mod Demand
