-- How the parts of a node show its view, and what a single change does to each of them.

pub mod Showing
pub mod PartChanges
pub mod OwnChanges
pub mod HeldChanges
pub mod ArrivedTurns
pub mod WrittenParts
pub mod PhaseWords
