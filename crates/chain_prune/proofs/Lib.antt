pub mod Searching
pub mod Dropping
pub mod ByKeys
pub mod SameSeen
