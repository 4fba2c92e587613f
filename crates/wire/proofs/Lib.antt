pub mod Words
pub mod Bytes
pub mod TwosComplement
pub mod Splice
pub mod FirstFault
pub mod Tests
pub mod Places
pub mod FromFn
