pub mod Restarting
pub mod Lives
