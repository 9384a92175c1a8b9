pub mod Blank
pub mod ReadsBack
pub mod Chosen
pub mod OnePart
