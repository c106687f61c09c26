-- The turns of the undecided own transactions are the pass over all, and what holds before each.

pub mod OwnMoments
pub mod PassOver
pub mod GatesOver
pub mod TurnSteps
pub mod GateSteps
pub mod PassSteps
