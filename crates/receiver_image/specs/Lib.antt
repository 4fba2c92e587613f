pub mod ReceiverImage
