pub mod Stepping
pub mod Meeting
pub mod Certifying
pub mod FromFacts
