pub mod ChainLists
pub mod Walks
pub mod Flat
pub mod Undecided
