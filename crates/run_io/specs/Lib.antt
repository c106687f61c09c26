pub mod Inputs
pub mod Renderings
pub mod RunCalls
