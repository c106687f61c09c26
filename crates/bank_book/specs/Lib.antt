pub mod BankScenes
pub mod Books
pub mod Balances
pub mod Tallies
pub mod BankLaw
