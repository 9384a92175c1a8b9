pub mod Alone
pub mod Bits
pub mod Meaning
pub mod Room
pub mod Record
