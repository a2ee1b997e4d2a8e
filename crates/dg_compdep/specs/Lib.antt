pub mod Exposing
pub mod Below
pub mod Dependencies
pub mod Faults
pub mod Ties
