-- Laws of every run, over the definitions alone.

pub mod Times
pub mod Lasting
pub mod Asking
pub mod Session
pub mod Stages
pub mod Presence
pub mod Marks
pub mod Apart
pub mod Prefix
pub mod Isolation
pub mod Reasons
pub mod Answers
pub mod Cut
