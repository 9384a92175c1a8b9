pub mod Scans
pub mod Judged
