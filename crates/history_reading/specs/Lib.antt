pub mod HistoryLines
pub mod HistoryRanges
pub mod Histories
pub mod Parts
pub mod Places
pub mod FirstBad
pub mod Reading
pub mod AuditLaw
