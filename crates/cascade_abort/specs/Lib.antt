pub mod Fates
pub mod Removal
