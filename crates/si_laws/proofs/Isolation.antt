-- Snapshot isolation of the answers of every run.
-- The law Prefix: what committed answers and wishes saw.

pub mod WishOrigins
pub mod WritersAnswered
pub mod BehindAnswers
pub mod AnswersFollow
pub mod IsolationHolds
pub mod PrefixHolds
