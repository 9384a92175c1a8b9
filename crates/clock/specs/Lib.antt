pub mod Call
pub mod Clock
