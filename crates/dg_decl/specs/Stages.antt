-- The stages of the check, each a list of rules.
pub mod Components
pub mod Dependencies
pub mod Bindings
pub mod Sizes
pub mod Names
pub mod Types
pub mod Session
pub mod Links
