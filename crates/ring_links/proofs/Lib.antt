pub mod Making
pub mod Flowing
pub mod Meeting
pub mod Readying
