pub mod Statuses
pub mod Failures
pub mod Telling
pub mod Waiting
