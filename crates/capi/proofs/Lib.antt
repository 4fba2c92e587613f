pub mod Numbers
pub mod Stretches
pub mod Counts
pub mod ImageCalls
pub mod ImageDemandHolds
pub mod FreshImages
pub mod ReceiverCalls
pub mod ReceiverDemandHolds
