-- The law Presence: where the versions of a transaction stand, until its decision is given.
-- Decisions are valid at their receivers, and what was given is done.

pub mod DecisionsDone
pub mod DecisionsDelivered
pub mod DecisionsValid
pub mod PresenceHolds
