pub mod Filing
pub mod Doing
pub mod Staying
pub mod OneResult
pub mod ReadsBack
