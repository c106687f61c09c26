-- A merge that is under way.
-- What the earliest entry of what is left adds to it.

pub mod EarliestHead
pub mod FirstLeft
pub mod MergeUnderWay
