-- Worked scenes, computed: each text is the spelling of its scene, and each output is the rendering of its run.
-- The words in which they are written, and a scene that meets the limits.

pub mod Words
pub mod Commits
pub mod Conflicts
pub mod Dependencies
pub mod Pruned
pub mod AScene
