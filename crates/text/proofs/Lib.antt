pub mod Choice
pub mod NumberLaws
pub mod Printed
pub mod Putting
