-- Scenes in which two writers of one key overlap.

pub mod LostUpdate
pub mod OverlappingPuts
pub mod ConflictAndEviction
pub mod RefusedByMaster
pub mod AbortBeforeReplicate
