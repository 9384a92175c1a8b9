pub mod Known
pub mod Through
pub mod Cut
