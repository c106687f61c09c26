pub mod Seats
pub mod Stretches
pub mod Turns
pub mod Races
pub mod Sending
pub mod Settling
pub mod Nodes
