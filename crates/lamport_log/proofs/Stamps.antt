-- Entries in order of their stamps.
-- How great a stamp can be.

pub mod StampOrder
pub mod StampsBounded
