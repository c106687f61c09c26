pub mod RoundsAsked
pub mod Spelled
pub mod Starting
pub mod Merged
pub mod Raced
