-- Speculative snapshot isolation of every run, with newest reads.
-- The headline of the one run of a scene.

pub mod NewestReads
pub mod SpeculationHolds
pub mod HeadlineHolds
