pub mod DerivedEquality
pub mod GrowthLemmas
pub mod KeptLemmas
pub mod MarkLemmas
pub mod OrderLemmas
pub mod PassLemmas
pub mod ReachedLemmas
