pub mod Causes
pub mod Pieces
pub mod Plan
pub mod Memory
pub mod Sure
pub mod Standard
pub mod Clocks
