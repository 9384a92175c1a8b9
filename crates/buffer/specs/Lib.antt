pub mod Places
pub mod Segments
pub mod Layout
pub mod Good
pub mod Lists
