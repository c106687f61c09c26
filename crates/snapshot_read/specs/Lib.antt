pub mod Shown
pub mod Causes
pub mod Turning
pub mod ListReads
