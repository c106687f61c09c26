pub mod Orders
pub mod Ledgers
pub mod Steps
pub mod Tests
pub mod Verdicts
pub mod Values
