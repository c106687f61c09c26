pub mod Gating
pub mod Saying
pub mod Upwards
