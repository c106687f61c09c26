pub mod Fitting
pub mod Gating
pub mod Seeing
pub mod Reading
pub mod Finding
pub mod FromFacts
