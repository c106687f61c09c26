pub mod Changes
pub mod Entries
pub mod History
pub mod Places
pub mod Rule
pub mod Slots
pub mod Views
