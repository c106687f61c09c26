-- The guard of a read: no commit of its key comes between its writer and the snapshot.
-- What every change, Commit and reply keeps of it.

pub mod ChainsInTime
pub mod ReadGuards
pub mod DecidedAbove
pub mod ReadsSaw
pub mod GuardGrounds
pub mod GuardsKept
pub mod GuardOpen
pub mod GuardSent
pub mod ReadOrigins
pub mod GuardReads
pub mod GuardedNewest
pub mod VersionOrigins
