mod NumberLemmas
pub mod TokenLemmas
pub mod LongestLemmas
pub mod OrderLemmas
pub mod TextLemmas
pub mod PieceLemmas
pub mod DecimalLemmas
