pub mod Bytes
pub mod Equality
pub mod Laws
pub mod Requests
pub mod Texts
