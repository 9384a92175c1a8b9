pub mod Trace
pub mod Held
pub mod Line
