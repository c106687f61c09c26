-- Scenes in which a transaction depends on one that is not decided yet.

pub mod SpeculativeRead
pub mod PrepareOvertakesCommit
pub mod FarClockOnCachedKey
pub mod HeldAnswers
pub mod LateDependency
pub mod Cascade
pub mod ConflictingPair
pub mod GateDelaysAHarmlessRead
pub mod NeedOnLostDependency
pub mod AskedEarly
pub mod AskedEarlyAndLost
