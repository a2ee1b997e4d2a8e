pub mod NumberLemmas
pub mod RowLemmas
pub mod CycleLemmas
pub mod ProductionLemmas
pub mod DepthLemmas
pub mod CallLemmas
pub mod BodyLemmas
pub mod WeightLemmas
