pub mod Why
pub mod Meaning
