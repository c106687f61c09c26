-- The law Pairs: of two that a transaction read from or depends on, and that wrote one key, one is before the other.
-- What lasts of snapshots, reads and writers through each change and each step.

pub mod SnapshotsGrow
pub mod ReadsMove
pub mod CertifiedLast
pub mod WritersTied
pub mod ReadsCounted
pub mod DependenciesNested
pub mod ReadsBefore
pub mod RulesOnOwn
pub mod StepsPaired
pub mod WritersOrdered
pub mod PairsHold
