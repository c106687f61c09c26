-- What is left to do falls with each event that is not idle.
-- The laws Work and Drain.

pub mod LeftSums
pub mod LeftHome
pub mod LeftOwn
pub mod LeftActs
pub mod LeftPass
pub mod LeftRule
pub mod LeftWorld
pub mod LeftEvents
pub mod WorkHolds
pub mod DrainHolds
pub mod RepeatRaises
