pub mod Modes
pub mod Jobs
pub mod Meanings
pub mod Tables
pub mod Walks
pub mod Numbers
