pub mod Failing
pub mod Prefixes
pub mod Pieces
pub mod WordLists
pub mod Whole
pub mod Lines
