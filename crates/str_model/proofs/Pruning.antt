-- A step over a pruned view is the step over the full one, with the same answers.
-- What pruning leaves alone, and the bound at which a node prunes.

pub mod PruneLists
pub mod PruneOrder
pub mod PruneTurns
pub mod PruneMaster
pub mod Twins
pub mod TwinChoices
pub mod PruneKept
pub mod TwinTurns
pub mod TwinRules
pub mod TwinStep
pub mod PruneGood
pub mod PruneFacts
pub mod TwinGood
pub mod PruneBounds
