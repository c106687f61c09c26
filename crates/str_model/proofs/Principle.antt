-- A step as a path of single changes, and the principle by which laws of every run are proved.
-- What each change keeps holds at every moment, and at the end of every run.

pub mod SingleChanges
pub mod StepPaths
pub mod AtMoments
pub mod Everywhere
pub mod LaterMoments
pub mod LastMoment
pub mod NextMoments
pub mod MomentPaths
pub mod EndOfRuns
pub mod TraceEvents
pub mod OwnPaths
pub mod RulePaths
pub mod EvictionsClear
