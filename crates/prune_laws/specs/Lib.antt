pub mod PrunedClusters
pub mod PruneLaw
