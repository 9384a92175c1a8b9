pub mod Imaging
pub mod Returns
