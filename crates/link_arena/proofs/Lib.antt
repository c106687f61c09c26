pub mod RowLemmas
pub mod HeadLemmas
pub mod SideLemmas
pub mod ArenaLemmas
pub mod Listed
