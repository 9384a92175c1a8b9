pub mod Saying
pub mod Leaking
