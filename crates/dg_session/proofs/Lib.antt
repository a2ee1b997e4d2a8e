pub mod SceneLemmas
pub mod ArgumentLemmas
pub mod EntryLemmas
pub mod NumberLemmas
pub mod NumberedForms
pub mod EntryTableLemmas
