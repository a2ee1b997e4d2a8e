pub mod ExposingLemmas
pub mod BelowLemmas
pub mod NamedLemmas
pub mod DependencyLemmas
pub mod OpenedLemmas
pub mod TieLemmas
pub mod LinkLemmas
