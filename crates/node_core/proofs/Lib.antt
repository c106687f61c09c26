pub mod Parts
pub mod Rules
pub mod PassTurns
pub mod Waiting
pub mod Whole
pub mod OldVersions
