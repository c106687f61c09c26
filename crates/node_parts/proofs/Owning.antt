-- What keeps the lists of a node's own transactions: their names, which are undecided, which are told of, and the last one of each session.

pub mod NamesKept
pub mod OpenPlaces
pub mod ToldSnapshots
pub mod LastPlaces
pub mod ListKept
pub mod ScriptTurns
pub mod DependencyFates
pub mod Participants
pub mod ScriptsHere
