pub mod Imaged
pub mod ImageDemand
pub mod ReceiverImaged
pub mod ReceiverDemand
