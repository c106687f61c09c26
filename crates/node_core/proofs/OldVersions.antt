-- The low mark of a node, what its stores become where old versions go, and how many versions they have.

pub mod LowMark
pub mod PrunedStores
pub mod Counting
