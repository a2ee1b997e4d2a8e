pub mod TableLemmas
pub mod StatementLemmas
pub mod KnownLemmas
pub mod ClassLemmas
