pub mod Acting
pub mod Requests
