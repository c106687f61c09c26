-- The facts of a node's view that any input keeps, and what they give where a step reads, certifies, places and takes out.
-- Times below a bound, versions, values, marks and those who wait.

pub mod ValidMessages
pub mod TimesEnd
pub mod WaitersKept
pub mod VersionsKept
pub mod ValuesKept
pub mod MarksKept
pub mod MomentKept
pub mod GatesEnd
pub mod NodeKept
pub mod NodeUses
pub mod QuietTurns
pub mod TimesBelow
pub mod PartsBelow
pub mod ChangesBelow
pub mod MarksRise
