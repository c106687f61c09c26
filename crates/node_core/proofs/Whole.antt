-- A step as a whole: what was done only grows, the room that it needs, and what a node keeps between steps.

pub mod Growing
pub mod Moves
pub mod Readying
pub mod NodeSteps
pub mod BodySteps
pub mod WholeStep
