pub mod LineGiven
