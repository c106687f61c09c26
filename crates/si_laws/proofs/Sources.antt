-- Where reads, replies and Final versions come from.
-- Each is of a version of the key, and what is told as final is so.

pub mod LetterSources
pub mod FinalsReported
pub mod ReadSources
pub mod GivenVersions
