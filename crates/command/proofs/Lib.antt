pub mod Lined
pub mod OneResult
