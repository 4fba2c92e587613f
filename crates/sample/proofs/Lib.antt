pub mod SampleBytes
pub mod SampleRead
pub mod AcceptedFields
pub mod ExamplesHold
