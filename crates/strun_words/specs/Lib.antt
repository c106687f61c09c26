pub mod Tasks
pub mod Parsing
