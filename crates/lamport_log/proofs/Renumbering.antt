-- The numbers of messages among all messages.
-- How they stand as entries follow.

pub mod MessageNumbers
pub mod NodeNumbers
