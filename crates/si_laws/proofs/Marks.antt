-- The law Marks: who has read a key has left its mark.
-- At home, at the master that replied, and with the commit of whom it read from.

pub mod HomeMarks
pub mod ReadsAtMasters
pub mod ReplyMarks
pub mod DoneMarks
pub mod MarksSent
pub mod WritersWrote
pub mod MarksHold
