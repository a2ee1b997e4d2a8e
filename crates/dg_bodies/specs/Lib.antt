pub mod Counts
pub mod ElementKeys
pub mod Elements
pub mod Made
pub mod Sites
