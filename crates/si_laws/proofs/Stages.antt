-- A pair of a transaction and a partition only moves forward.
-- What messages, replicas and origins have to do with one another, in every state of a run.

pub mod PairsForward
pub mod AcksKnown
pub mod PreAsked
pub mod PairVersions
pub mod LinkedStates
pub mod LinksKept
pub mod AllLinksKept
pub mod ParticipantSeats
