pub mod Printing
pub mod Reading
pub mod Written
