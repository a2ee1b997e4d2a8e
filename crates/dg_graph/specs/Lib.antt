pub mod Growth
pub mod Kept
pub mod Reached
pub mod Vacant
