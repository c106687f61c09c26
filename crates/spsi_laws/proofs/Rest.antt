-- The law Rest: where nothing is left to do, every transaction is answered.
-- What each undecided transaction, and each that waits, waits for.

pub mod RestActs
pub mod RestStages
pub mod RestTurns
pub mod RestPass
pub mod RestLimit
pub mod RestEvents
pub mod RestHolds
pub mod GivenBy
pub mod RunEnds
