pub mod Written
pub mod OfNode
pub mod OfEvaluation
pub mod Reaching
