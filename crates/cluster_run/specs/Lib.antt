pub mod Flags
pub mod Clusters
pub mod Printing
pub mod Marks
pub mod PrunedStates
