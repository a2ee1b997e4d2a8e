pub mod Scopes
pub mod Results
pub mod Contexts
pub mod Depths
