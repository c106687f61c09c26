-- What a transaction has read gives what it has got and written.
-- So its script, evaluated on any look that agrees with its reads, comes to where it stands.

pub mod ReadsEvaluate
pub mod EvaluationKept
