pub mod LineLaws
pub mod IntsLaws
pub mod FlagsLaws
pub mod ReadLaws
pub mod RoundTrip
