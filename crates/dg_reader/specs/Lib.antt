pub mod Faults
pub mod Gives
pub mod Budgets
pub mod Drafts
pub mod Adding
