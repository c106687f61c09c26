pub mod Commits
pub mod SnapshotIsolation
pub mod Numbers
pub mod Standing
pub mod Laws
pub mod GateLaw
pub mod SpeculativeIsolation
pub mod TrueCause
