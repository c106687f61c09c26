pub mod Behind
pub mod Counted
pub mod Entries
pub mod Offered
pub mod Reading
pub mod Refusing
pub mod Rendered
pub mod RunCalls
