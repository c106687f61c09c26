pub mod Causes
pub mod Judging
pub mod Turning
pub mod ListCerts
