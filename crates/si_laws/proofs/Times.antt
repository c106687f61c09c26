-- The law Times: the order of timestamps at a node, and the bound on all timestamps of a run.
-- Each timestamp is below the limit and the number of proposals, of which there are few.

pub mod TimesHold
pub mod LettersBelow
pub mod TimesBounded
pub mod ProposalsCounted
pub mod AcksOnce
pub mod ProposalsFew
pub mod ParticipantsFew
pub mod BegunFew
pub mod NoRepeats
