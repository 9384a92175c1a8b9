pub mod Stepping
pub mod Recovering
pub mod Lives
pub mod Refusals
