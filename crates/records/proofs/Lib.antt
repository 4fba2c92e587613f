pub mod BlockGiven
