pub mod Requests
pub mod Productions
pub mod MapKeys
