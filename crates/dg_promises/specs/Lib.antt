pub mod Uses
pub mod Replies
