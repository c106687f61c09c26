pub mod StoreLists
pub mod DoneIndex
pub mod Crowds
