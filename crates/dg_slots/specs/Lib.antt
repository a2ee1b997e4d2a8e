pub mod Numbered
pub mod Sessions
pub mod Links
pub mod Plans
