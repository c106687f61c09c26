pub mod Checked
pub mod Counts
pub mod Each
mod Drafting
pub mod Filling
pub mod Pairs
pub mod KeepingLemmas
mod Put
mod Seen
mod TableLemmas
mod Weaker
pub mod Mapped
pub mod Without
pub mod Allowing
pub mod SamePlaces
