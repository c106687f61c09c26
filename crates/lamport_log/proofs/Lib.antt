pub mod NodeLogs
pub mod Renumbering
pub mod MergeRuns
pub mod Stamps
pub mod Merging
pub mod Worked
