pub mod EqualityLemmas
pub mod ShapeEquality
pub mod ShapeLemmas
pub mod WrittenBack
