pub mod ElementLemmas
pub mod LookLemmas
pub mod PlaceLemmas
