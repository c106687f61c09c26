-- The law Session: places, names, and the order in which a session is answered.
-- The law Cut: a run that is cut off has a beginning of the answers.

pub mod SessionOrder
pub mod SessionHolds
pub mod SessionAnswers
pub mod CutHolds
