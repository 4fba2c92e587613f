pub mod Printing
pub mod Placed
pub mod Program
pub mod Examples
pub mod Demand
