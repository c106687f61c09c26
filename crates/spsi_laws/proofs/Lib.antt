pub mod Work
pub mod Rest
pub mod Dependencies
pub mod Speculation
pub mod Pairs
pub mod UnderWay
