pub mod Changes
pub mod Slaves
