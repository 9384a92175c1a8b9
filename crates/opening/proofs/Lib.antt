pub mod Copying
pub mod Filling
pub mod Cases
pub mod OneResult
pub mod Opened
