pub mod ListLemmas
pub mod RequestLemmas
pub mod ProductionLemmas
pub mod LedLemmas
pub mod MapKeyLemmas
pub mod SizeLemmas
pub mod StageLemmas
