pub mod Apart
pub mod Lowest
