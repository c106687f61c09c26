-- Each who waits is judged once and in order.

pub mod SweepOver
pub mod Unwaited
pub mod WaiterSteps
pub mod SweepSteps
