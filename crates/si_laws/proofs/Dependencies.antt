-- What stands around a Local version, and what becomes of a dependency.
-- A Pre and a Local version of a key never meet.

pub mod AroundLocal
pub mod LeftAlone
pub mod AroundKept
pub mod LocalsApart
pub mod DependencyFates
