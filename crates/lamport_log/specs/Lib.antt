pub mod Logs
pub mod Replays
pub mod Closed
pub mod Merge
pub mod Rounds
pub mod Merging
