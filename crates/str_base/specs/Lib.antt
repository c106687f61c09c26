pub mod Versions
pub mod Values
pub mod Members
