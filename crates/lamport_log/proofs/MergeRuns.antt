-- The run of the events of a merge.
-- It is what the entries tell.

pub mod EntrySteps
pub mod GivenFlags
pub mod EventsRun
pub mod TakenSent
pub mod MergeHolds
