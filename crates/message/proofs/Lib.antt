pub mod Admitted
pub mod RoundTrip
pub mod DerivedAdmitted
pub mod ExamplesHold
