pub mod CallFolds
pub mod CallLemmas
pub mod DerivedEquality
pub mod EdgeLemmas
pub mod NumberLemmas
