pub mod ConstantForms
pub mod NameLemmas
pub mod KeyLemmas
pub mod StoreLemmas
pub mod AnswerLemmas
pub mod ParentLemmas
