pub mod Backoffs
