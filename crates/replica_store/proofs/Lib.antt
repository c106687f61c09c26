pub mod Parking
pub mod Commuting
pub mod Merging
pub mod MergedReads
pub mod MergedChanges
pub mod OwnCommit
pub mod Crowds
