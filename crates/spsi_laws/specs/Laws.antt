-- Laws of every run, over the definitions alone.

pub mod Dependencies
pub mod Cascades
pub mod Newest
pub mod Pairs
pub mod Speculation
pub mod Rest
pub mod Ends
pub mod UnderWay
pub mod Valid
pub mod Work
pub mod Drain
