pub mod Counts
pub mod Graph
pub mod Walks
pub mod Weights
