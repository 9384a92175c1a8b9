pub mod Table
pub mod Causes
