pub mod Letters
pub mod Written
