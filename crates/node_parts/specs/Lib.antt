pub mod Phases
pub mod Owning
pub mod Sending
pub mod Letters
pub mod Sites
pub mod Holding
pub mod NodeScripts
