pub mod ClassLemmas
pub mod LevelLemmas
pub mod ListLemmas
pub mod PlanLemmas
