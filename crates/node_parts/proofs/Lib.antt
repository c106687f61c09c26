pub mod Owning
pub mod Naming
pub mod Posting
pub mod Mapping
pub mod Committing
