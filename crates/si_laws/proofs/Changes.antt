-- What a single change sends, and what it leaves of what is decided.
-- The laws of every run look at changes in these words.

pub mod LettersSent
pub mod ReadTurns
pub mod ReadLetters
pub mod DecidedStay
