pub mod ChoiceLemmas
pub mod NumberLemmas
pub mod ResultLemmas
pub mod RunLemmas
pub mod ValueLemmas
