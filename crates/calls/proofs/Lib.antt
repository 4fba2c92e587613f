pub mod SamplesInTurn
pub mod CallFaults
pub mod OrderOfChecksHolds
pub mod Records
pub mod CallsMeet
pub mod CallCounts
pub mod MadeCall
pub mod DemandHolds
