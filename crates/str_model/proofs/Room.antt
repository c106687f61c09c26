-- The room that a step needs: a bound by the undecided own transactions and those who wait.
-- What each turn, each rule and each part of them adds.

pub mod SmallNumbers
pub mod PartCosts
pub mod NeedTurns
pub mod NeedRules
pub mod NeedBound
