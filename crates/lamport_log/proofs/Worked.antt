-- Two nodes that exchange a read request and its reply.
-- Their logs can be merged, and are rounds.

pub mod WorkedLogs
pub mod WorkedRounds
