pub mod Leaving
pub mod Deciding
pub mod Dropping
pub mod FromFacts
