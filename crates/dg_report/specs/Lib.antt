pub mod Held
pub mod Output
pub mod Packed
pub mod Shown
