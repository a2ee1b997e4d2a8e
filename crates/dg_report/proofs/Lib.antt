pub mod TakenLemmas
pub mod HeldLemmas
pub mod OutputLemmas
pub mod PackedLemmas
pub mod PlaceLemmas
pub mod ReplyLemmas
pub mod ShownLemmas
