pub mod Classes
pub mod Counted
pub mod Entries
pub mod PlanLines
