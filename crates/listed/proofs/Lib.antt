pub mod Holding
pub mod ReadsBack
