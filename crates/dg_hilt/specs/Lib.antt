pub mod Bytes
pub mod Classes
pub mod Laws
pub mod Names
pub mod Table
