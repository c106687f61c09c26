-- What an undecided transaction waits for from other nodes is under way: messages are valid, and what was given was judged.

pub mod NewMessages
pub mod NamedMessages
pub mod ValidMessages
pub mod OneOwn
pub mod PastReads
pub mod SentFor
pub mod Followed
pub mod RequestsKept
pub mod ReadsWaiting
pub mod GivenAt
pub mod Acknowledged
pub mod Judged
pub mod SeatsOnce
pub mod UnderWayHolds
