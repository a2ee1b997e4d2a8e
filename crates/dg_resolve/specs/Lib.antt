pub mod Chains
pub mod Explicit
pub mod Keys
pub mod Known
pub mod Members
pub mod Tables
