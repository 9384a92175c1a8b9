pub mod Saved
pub mod OneResult
